-- Octal digits, one after the other.
use Rattle.std.proofs.Common.{◌≡◌, ◌<◌, ℕ, ◌+◌, ◌-◌, ◌*◌, List, [], ◌∷◌, ◌++◌, length, take, get_or, All, refl, sym, ◌∙◌, ap}
use Rattle.std.proofs.lemmas.List.{take_more}
use Rattle.std.proofs.lemmas.List.Elements.{All-more}
use Rattle.git_objects.specs.Contents.{IsOctal, octal_after}

and_last : (n : ℕ) (ds : List ℕ) (d : ℕ) → octal_after n (ds ++ d ∷ []) ≡ octal_after n ds * 8 + (d - 48)
and_last n [] d = refl
and_last n (e ∷ ds) d = and_last (n * 8 + (e - 48)) ds d

-- The number of the first digits, with one more.
pub more_digits : (digits : List ℕ) (i n m : ℕ) → i < length digits → (octal_after 0 (take i digits) ≡ n) × All IsOctal (take i digits)
    → m ≡ n * 8 + (get_or digits i 0 - 48) → IsOctal (get_or digits i 0) → (octal_after 0 (take (i + 1) digits) ≡ m) × All IsOctal (take (i + 1) digits)
more_digits digits i n m below before more octal = (
  ap (octal_after 0) (take_more digits i 0 below) ∙ (and_last 0 (take i digits) (get_or digits i 0) ∙ (ap (λ (k : ℕ). k * 8 + (get_or digits i 0 - 48)) before.0 ∙ sym more)),
  All-more IsOctal digits i 0 below before.1 octal,
)
