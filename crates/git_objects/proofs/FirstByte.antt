-- The parts at the first byte of a value.
use Rattle.std.proofs.Common.{◌≡◌, ℕ, suc, ◌+◌, ◌<◌, false, List, ◌∷◌, ◌++◌, length, take, drop, get_or, position, Some, sym, ◌∙◌, ap, arith, add-one}
use Rattle.std.proofs.lemmas.Bool.{eqb-true}
use Rattle.std.proofs.lemmas.List.{take-append-drop, get_or-take, length-take-le}
use Rattle.std.proofs.Math.Seq.{drop-cons}
use Rattle.std.proofs.lemmas.List.Elements.{All-from_get_or}
use Rattle.std.proofs.lemmas.List.Quantifiers.{position-Some}
use Rattle.git_objects.specs.Splits.{IsSplitAt, is_byte}

pub split_at_first : (value : ℕ) (bytes : List ℕ) (at : ℕ) → position (is_byte value) bytes ≡ Some at → IsSplitAt value bytes (take at bytes) (drop (at + 1) bytes)
split_at_first value bytes at first =
    let found = position-Some (is_byte value) bytes at 0 first in
    let within : at < length bytes = found.0 in
    let same : get_or bytes at 0 ≡ value = eqb-true (get_or bytes at 0) value found.1 in (
      All-from_get_or (λ (b : ℕ). is_byte value b ≡ false) (take at bytes) 0 (λ k below.
          let early : k < at = omega (arith, below, length-take-le at bytes (omega arith)) in
          ap (is_byte value) (get_or-take at bytes k 0 early) ∙ found.2 k early),
      sym (take-append-drop at bytes)
          ∙ ap (λ (r : List ℕ). take at bytes ++ r) (drop-cons bytes at 0 within ∙ (ap (λ (b : ℕ). b ∷ drop (suc at) bytes) same ∙ ap (λ (n : ℕ). value ∷ drop n bytes) (sym (add-one at)))),
    )
