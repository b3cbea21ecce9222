-- Stored flags are read back, proved by trying all flags.
use Rattle.std.proofs.Common.{◌≡◌, ℕ, zero, suc, ◌+◌, ◌*◌, ◌/◌, ◌%◌, ◌^◌, ◌<◌, ◌==◌, Bool, true, ◌&&◌, List, [], ◌∷◌, ◌++◌, map, Option, Some, None, unwrap_or, inl, inr, refl, sym, ap, subst, ◌∙◌, if◌then◌else◌, arith}
use Rattle.std.specs.Prelude.{codes}
use Rattle.std.proofs.lemmas.Bool.{and_parts, cases_lt, eqb-true}
use Rattle.std.proofs.lemmas.Nat.Bits.{and_pow}
use Rattle.serde_json.specs.Data.{array, string}
use Rattle.serde_json.specs.View.{items_of}
use Rattle.status_index.specs.FlagBits.{bits_of_stage, stage_of_bits}
use Rattle.status_format.specs.Reading.{flags_in}
use Rattle.status_format.specs.Storable.{known_bits}
use Rattle.status_format.specs.StoredEntry.{stored_flags}
use Rattle.status_format.specs.Words.{flag_words, word_in}

-- The flags of a number: its five low bits, and the stage from the bits above them.
abbrev bits_at : ℕ → ℕ
bits_at k = k / 32 * 0x1000 + k % 32

abbrev read_back : ℕ → Option ℕ
read_back bits = flags_in (bits_of_stage (stage_of_bits bits)) (stored_flags bits)

-- Whether the flags of this number are read back. All flags are below the default 0x10000.
abbrev is_back : ℕ → Bool
is_back k = unwrap_or (read_back (bits_at k)) 0x10000 == bits_at k

abbrev are_back : ℕ → Bool
are_back zero = true
are_back (suc n) = is_back n && are_back n

back_at : (n k : ℕ) → are_back n ≡ true → k < n → is_back k ≡ true
back_at zero k h lt = absurd (omega arith)
back_at (suc n) k h lt =
    let parts = and_parts (is_back n) (are_back n) h in
    elim (cases_lt k n) [
      | inl below ↦ back_at n k parts.1 below
      | inr top ↦
          let e : k ≡ n = omega arith in
          rw e parts.0
    ]

some_from_unwrap : (o : Option ℕ) (bits : ℕ) → bits < 0x10000 → unwrap_or o 0x10000 ≡ bits → o ≡ Some bits
some_from_unwrap (Some x) bits lt e = ap Some e
some_from_unwrap None bits lt e = absurd (omega arith)

back_of : (k : ℕ) → k < 128 → read_back (bits_at k) ≡ Some (bits_at k)
back_of k lt =
    let small : bits_at k < 0x10000 = omega arith in
    some_from_unwrap (read_back (bits_at k)) (bits_at k) small
    (eqb-true (unwrap_or (read_back (bits_at k)) 0x10000) (bits_at k) (back_at 128 k refl lt))

-- ---- the known bits have the same words as all bits

pub stage_known : (bits : ℕ) → stage_of_bits (known_bits bits) ≡ stage_of_bits bits
stage_known bits = omega arith

-- A flag's word is the same if its bit is.
word_known : (bits : ℕ) (word : List ℕ) (k : ℕ) → known_bits bits / 2 ^ k % 2 ≡ bits / 2 ^ k % 2 → word_in (known_bits bits) (word, 2 ^ k) ≡ word_in bits (word, 2 ^ k)
word_known bits word k same =
    ap (λ (n : ℕ). if n == 2 ^ k then word ∷ [] else []) (and_pow (known_bits bits) k ∙ ap (λ b. b * 2 ^ k) same ∙ sym (and_pow bits k))

words_known : (bits : ℕ) → flag_words (known_bits bits) ≡ flag_words bits
words_known bits =
    let first = word_known bits (codes "uptodate") 0 (omega arith) in
    let second = word_known bits (codes "skip-worktree") 1 (omega arith) in
    let third = word_known bits (codes "assume-valid") 4 (omega arith) in
    let fourth = word_known bits (codes "fsmonitor-valid") 2 (omega arith) in
    let fifth = word_known bits (codes "intent-to-add") 3 (omega arith) in
    λ i. first i ++ (second i ++ (third i ++ (fourth i ++ (fifth i ++ []))))

-- The known flags are read back, since they are those of a number below 128.
pub flags_back : (bits : ℕ) → flags_in (bits_of_stage (stage_of_bits bits)) (stored_flags bits) ≡ Some (known_bits bits)
flags_back bits =
    let k = bits / 0x1000 % 4 * 32 + bits % 32 in
    let small : k < 128 = omega arith in
    let same : bits_at k ≡ known_bits bits = omega arith in
    let back : read_back (known_bits bits) ≡ Some (known_bits bits) = subst (λ b. read_back b ≡ Some b) same (back_of k small) in
    let as_known : flags_in (bits_of_stage (stage_of_bits bits)) (stored_flags bits) ≡ read_back (known_bits bits) =
    λ i. flags_in (bits_of_stage (sym (stage_known bits) i)) (array (items_of (map string (sym (words_known bits) i)))) in
    as_known ∙ back
