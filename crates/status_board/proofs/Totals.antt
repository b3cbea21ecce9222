-- Sums over a list.
use Rattle.std.proofs.Common.{◌≡◌, ℕ, zero, suc, ◌+◌, ◌≤◌, List, [], ◌∷◌, ◌++◌, set, refl, sym, ap, subst, ⊎_elim, arith}
use mathlib.Core.Option.{some, some-injective, some-ne-none}
use lib.ListN.{get_elem?}
use Rattle.atomic_table.proofs.Lists.{at_set}
use Rattle.status_board.specs.Shared.{total}

module _ {V : Type 0} where
  pub total_set : (f : V → ℕ) (vs : List V) (i : ℕ) (v w : V) → get_elem? vs i ≡ some v → total f (set vs i w) + f v ≡ total f vs + f w
  total_set f [] i v w at = absurd (some-ne-none v (sym at))
  total_set f (x ∷ xs) zero v w at = let is : f x ≡ f v = ap f (some-injective x v at) in omega arith
  total_set f (x ∷ xs) (suc i) v w at = let r = total_set f xs i v w at in omega arith

  pub total_snoc : (f : V → ℕ) (vs : List V) (w : V) → total f (vs ++ w ∷ []) ≡ total f vs + f w
  total_snoc f [] w = omega arith
  total_snoc f (x ∷ xs) w = let r = total_snoc f xs w in omega arith

  pub total_least : (f : V → ℕ) (vs : List V) (i : ℕ) (v : V) → get_elem? vs i ≡ some v → f v ≤ total f vs
  total_least f [] i v at = absurd (some-ne-none v (sym at))
  total_least f (x ∷ xs) zero v at = let is : f x ≡ f v = ap f (some-injective x v at) in omega arith
  total_least f (x ∷ xs) (suc i) v at = let r = total_least f xs i v at in omega arith

  pub total_le : (f g : V → ℕ) (vs : List V) → ((i : ℕ) (v : V) → get_elem? vs i ≡ some v → f v ≤ g v) → total f vs ≤ total g vs
  total_le f g [] le = omega arith
  total_le f g (x ∷ xs) le = let here = le zero x refl in let r = total_le f g xs (λ i. le (suc i)) in omega arith

  pub total_none : (f : V → ℕ) (vs : List V) → ((i : ℕ) (v : V) → get_elem? vs i ≡ some v → f v ≡ 0) → total f vs ≡ 0
  total_none f [] none_of = refl
  total_none f (x ∷ xs) none_of = let here = none_of zero x refl in let r = total_none f xs (λ i. none_of (suc i)) in omega arith

  -- if one element has all of g, and elements with no g have no f, it has all of f
  pub total_alone : (f g : V → ℕ) (vs : List V) (i : ℕ) (v : V) → get_elem? vs i ≡ some v → total g vs ≡ g v
      → ((j : ℕ) (w : V) → get_elem? vs j ≡ some w → g w ≡ 0 → f w ≡ 0) → total f vs ≡ f v
  total_alone f g [] i v at all idle = absurd (some-ne-none v (sym at))
  total_alone f g (x ∷ xs) zero v at all idle =
      let g_is : g x ≡ g v = ap g (some-injective x v at) in
      let f_is : f x ≡ f v = ap f (some-injective x v at) in
      let rest = total_none f xs (λ j w there. idle (suc j) w there (let least = total_least g xs j w there in omega arith)) in
      omega arith
  total_alone f g (x ∷ xs) (suc i) v at all idle =
      let least = total_least g xs i v at in
      let here = idle zero x refl (omega arith) in
      let rest = total_alone f g xs i v at (omega arith) (λ j. idle (suc j)) in
      omega arith

  -- if a fact holds of each element and of the new one, it holds of each after a write
  pub each_set : (P : V → Type 0) (vs : List V) (i : ℕ) (w : V) → P w → ((j : ℕ) (u : V) → get_elem? vs j ≡ some u → P u) → (j : ℕ) (u : V) → get_elem? (set vs i w) j ≡ some u → P u
  each_set P vs i w here there j u at = ⊎_elim (λ t. subst P t.1 here) (λ t. there j u t.1) (at_set vs i j w u at)
