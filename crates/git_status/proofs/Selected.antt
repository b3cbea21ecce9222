-- Whether an element of a list passes a test.
use Rattle.std.proofs.Common.{rules, ◌≡◌, ◌==◌, ◌||◌, not, Bool, true, false, List, [], ◌∷◌, length, refl}
use Rattle.std.specs.Prelude.{cond}
use Rattle.std.specs.List.{filter, list_any}

-- one does if the first does, or if some are left of the others
one_more : {X : Type 0} (b any : Bool) (x : X) (rest : List X) → any ≡ not (length rest == 0) → (b || any) ≡ not (length (cond b (x ∷ rest) rest) == 0)
one_more true any x rest same = search rules
one_more false any x rest same = same

-- one does if the list isn't empty without the others
pub any_filtered : {X : Type 0} (p : X → Bool) (xs : List X) → list_any p xs ≡ not (length (filter p xs) == 0)
any_filtered p [] = refl
any_filtered p (x ∷ xs) = one_more (p x) (list_any p xs) x (filter p xs) (any_filtered p xs)
