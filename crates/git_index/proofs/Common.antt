-- The length of the longest common front of two lists.
use Rattle.std.proofs.Common.{◌≡◌, ◌≢◌, ◌<◌, ◌≤◌, ℕ, zero, suc, eqb, true, false, List, [], ◌∷◌, length, take, refl, ap, arith, inl, inr}
use Rattle.std.specs.Prelude.{slice_index}
use Rattle.std.proofs.lemmas.Bool.{ne_eqb}
use Rattle.std.proofs.lemmas.Bool.Decides.{eqb_tells}
use Rattle.git_index.specs.Writing.{common_len}

same_head : (x y : ℕ) (xs ys : List ℕ) → x ∷ xs ≡ y ∷ ys → x ≡ y
same_head x y xs ys e = cc

same_rest : (x y : ℕ) (xs ys : List ℕ) → x ∷ xs ≡ y ∷ ys → xs ≡ ys
same_rest x y xs ys e = cc

eqb_same : (x y : ℕ) → x ≡ y → eqb x y ≡ true
eqb_same x y e = elim (eqb_tells x y) [
  | inl h ↦ h.0
  | inr h ↦ absurd (h.1 e)
]

pub common_is : (xs ys : List ℕ) (n : ℕ) → n ≤ length xs → n ≤ length ys → take n xs ≡ take n ys → (n < length xs → n < length ys → slice_index xs n ≢ slice_index ys n) → n ≡ common_len xs ys
common_is [] ys n a b same most = omega (arith, a)
common_is (x ∷ xs) [] n a b same most = omega (arith, b)
common_is (x ∷ xs) (y ∷ ys) zero a b same most =
    let differs : eqb x y ≡ false = ne_eqb x y (most (omega arith) (omega arith)) in
    rw differs refl
common_is (x ∷ xs) (y ∷ ys) (suc n) a b same most =
    let equal : eqb x y ≡ true = eqb_same x y (same_head x y (take n xs) (take n ys) same) in
    let rest : n ≡ common_len xs ys = common_is xs ys n (omega (arith, a)) (omega (arith, b)) (same_rest x y (take n xs) (take n ys) same) (λ l m. most (omega (arith, l)) (omega (arith, m))) in
    rw equal (ap (λ (k : ℕ). suc k) rest)
