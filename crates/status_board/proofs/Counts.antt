-- How often a number occurs in a list, and how many numbers of a list are below a number.
use Rattle.std.proofs.Common.{inl, inr, ◌≡◌, ℕ, ◌+◌, ◌<◌, ◌≤◌, cond, nat_lt, if◌then◌else◌, List, [], ◌∷◌, ◌++◌, All, Contains, refl, arith}
use Rattle.std.proofs.lemmas.Bool.Decides.{nat_tests}
use Rattle.std.proofs.lemmas.Bool.{cases_lt}
use Rattle.std.proofs.lemmas.List.Elements.{All-head, All-tail, Contains-append_right}
use Rattle.status_board.specs.Numbers.{times}
use Rattle.status_board.specs.Shared.{below}

pub times-append : (x : ℕ) (ys zs : List ℕ) → times x (ys ++ zs) ≡ times x ys + times x zs
times-append x [] zs = omega arith
times-append x (y ∷ ys) zs = let r = times-append x ys zs in omega arith

pub below-append : (t : ℕ) (ys zs : List ℕ) → below t (ys ++ zs) ≡ below t ys + below t zs
below-append t [] zs = omega arith
below-append t (y ∷ ys) zs = let r = below-append t ys zs in omega arith

-- the numbers below n + 1 are those below n, and n
pub once_more : (x n : ℕ) → (if nat_lt x (n + 1) then 1 else 0) ≡ (if nat_lt x n then 1 else 0) + times x (n ∷ [])
once_more x n = grind (arith, nat_tests)

-- k isn't below t if t is at most k
pub below_one_none : (t k : ℕ) → t ≤ k → below t (k ∷ []) ≡ 0
below_one_none t k le = grind (arith, nat_tests)

pub below_one : (k : ℕ) → below (k + 1) (k ∷ []) ≡ 1
below_one k = grind (arith, nat_tests)

one_below : (t x : ℕ) → t ≤ x → cond {A = ℕ} (nat_lt x t) 1 0 ≡ 0
one_below t x le = grind (arith, nat_tests)

-- if some are below m + 1 and all are at least m, one is m
pub contains_met : (m : ℕ) (xs : List ℕ) → All (λ x. m ≤ x) xs → 0 < below (m + 1) xs → Contains xs m
contains_met m [] least some_below = absurd (omega arith)
contains_met m (x ∷ xs) least some_below = elim (cases_lt m x) [
  | inl above ↦ Contains-append_right (x ∷ []) xs m
      (contains_met m xs (All-tail (λ y. m ≤ y) x xs least) (let z = one_below (m + 1) x (omega arith) in omega arith))
  | inr under ↦ (let is : x ≡ m = let p = All-head (λ y. m ≤ y) x xs least in omega arith in (0, omega arith, is))
]

-- a list is empty if all its numbers are at least t and below u, and u is at most t
pub empty_between : (t u : ℕ) (xs : List ℕ) → All (λ x. t ≤ x) xs → All (λ x. x < u) xs → u ≤ t → xs ≡ []
empty_between t u [] least most le = refl
empty_between t u (x ∷ xs) least most le =
    let p = All-head (λ y. t ≤ y) x xs least in
    let q = All-head (λ y. y < u) x xs most in
    absurd (omega arith)
