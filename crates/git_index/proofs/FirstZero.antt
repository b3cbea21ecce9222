-- The first zero byte, by a fast search.
use Rattle.std.proofs.Common.{◌≡◌, ℕ, ◌<◌, List, length, true, false, Bool, Option, Some, None, position, refl, arith}
use Rattle.std.proofs.lemmas.Bool.{le-ltb, lt-ltb}
use Rattle.std.proofs.lemmas.List.Sums.{position_or_len_is}
use Rattle.memchr.specs.Find.{IsFirstByte, is_byte}
use Rattle.git_index.specs.Reading.{is_nul}

is_false : (b : Bool) → (b ≡ true → ⊥) → b ≡ false
is_false true never = absurd (never refl)
is_false false never = refl

pub first_zero : (bytes : List ℕ) (r : Option ℕ) → IsFirstByte (is_byte 0) bytes r → r ≡ position is_nul bytes
first_zero bytes None h =
    let at = position_or_len_is is_nul bytes (length bytes) 0 (omega arith) (λ k lt. is_false _ (h k (omega arith) lt)) (λ lt. absurd (omega (arith, lt))) in
    rw (at, le-ltb (length bytes) (length bytes) (omega arith)) refl
first_zero bytes (Some k) h =
    let at = position_or_len_is is_nul bytes k 0 (omega (arith, h.0.high)) (λ j lt. is_false _ (h.0.before j (omega arith) lt)) (λ lt. h.1) in
    rw (at, lt-ltb k (length bytes) h.0.high) refl
