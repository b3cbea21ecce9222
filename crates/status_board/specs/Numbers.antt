-- Lists of numbers that were drawn or reported.
use Rattle.std.specs.Prelude.{◌≡◌, ◌<◌, ◌≤◌, ◌+◌, ◌==◌, ℕ, nat_lt, if◌then◌else◌, List, [], ◌∷◌, Option, Some, None, All, AllPairs, Contains}

-- How often x occurs in a list.
abbrev pub times : ℕ → List ℕ → ℕ
times x [] = 0
times x (y ∷ ys) = (if y == x then 1 else 0) + times x ys

-- A list has each number below n once, and no other.
abbrev pub HasEachBelow : ℕ → List ℕ → Type 0
HasEachBelow n xs = (x : ℕ) → times x xs ≡ (if nat_lt x n then 1 else 0)

-- Each number of a list is below all later ones.
abbrev pub IsAscending : List ℕ → Type 0
IsAscending xs = AllPairs (λ x y. x < y) xs

-- The last number of a list.
abbrev pub last_of : List ℕ → Option ℕ
last_of [] = None
last_of (x ∷ []) = Some x
last_of (x ∷ y ∷ ys) = last_of (y ∷ ys)

-- One more than the last number of a list, or 0.
abbrev pub after_last : List ℕ → ℕ
after_last [] = 0
after_last (x ∷ []) = x + 1
after_last (x ∷ y ∷ ys) = after_last (y ∷ ys)

-- The least number of a list, or None if the list is empty.
abbrev pub IsLeast : Option ℕ → List ℕ → Type 0
IsLeast None xs = xs ≡ []
IsLeast (Some m) xs = Contains xs m × All (λ x. m ≤ x) xs

-- There is a number, and it is below x.
abbrev pub LiesBelow : Option ℕ → ℕ → Type 0
LiesBelow None x = ⊥
LiesBelow (Some m) x = m < x
