-- A list from its end.
use Rattle.std.proofs.Common.{◌≡◌, ◌∙◌, ◌<◌, ◌≤◌, ◌-◌, ◌+◌, ℕ, List, ◌∷◌, length, drop, ap, arith}
use Rattle.std.proofs.lemmas.List.{drop_more}
use Rattle.std.specs.List.{slice_index_or}

-- The rest of a list from the element before `at`.
pub last_of : {A : Type 0} (xs : List A) (at : ℕ) (d : A) → 0 < at → at ≤ length xs → drop (at - 1) xs ≡ slice_index_or xs (at - 1) d ∷ drop at xs
last_of xs at d some inside =
    let next : at - 1 + 1 ≡ at = omega (arith, some) in
    drop_more xs (at - 1) d (omega (arith, some, inside)) ∙ ap (λ (k : ℕ). slice_index_or xs (at - 1) d ∷ drop k xs) next
