-- The last number of a list, and one more than it.
use Rattle.std.proofs.Common.{◌≡◌, ℕ, ◌+◌, ◌-◌, ◌<◌, ◌≤◌, List, [], ◌∷◌, ◌++◌, Some, All, refl, arith}
use Rattle.std.proofs.lemmas.List.Elements.{All-head, All-tail}
use Rattle.status_board.specs.Numbers.{last_of, after_last}

pub last_of-snoc : (xs : List ℕ) (x : ℕ) → last_of (xs ++ x ∷ []) ≡ Some x
last_of-snoc [] x = refl
last_of-snoc (y ∷ []) x = refl
last_of-snoc (y ∷ z ∷ zs) x = last_of-snoc (z ∷ zs) x

pub after_last-snoc : (xs : List ℕ) (x : ℕ) → after_last (xs ++ x ∷ []) ≡ x + 1
after_last-snoc [] x = refl
after_last-snoc (y ∷ []) x = refl
after_last-snoc (y ∷ z ∷ zs) x = after_last-snoc (z ∷ zs) x

-- if all numbers are below n, one more than the last is at most n
pub after_last-le : (n : ℕ) (xs : List ℕ) → All (λ k. k < n) xs → after_last xs ≤ n
after_last-le n [] all = omega arith
after_last-le n (y ∷ []) all = let p = All-head (λ k. k < n) y [] all in omega arith
after_last-le n (y ∷ z ∷ zs) all = after_last-le n (z ∷ zs) (All-tail (λ k. k < n) y (z ∷ zs) all)

-- a draw leaves less to be drawn: the measure of a loop of draws
pub draw_falls : (pieces : ℕ) (xs : List ℕ) (n : ℕ) → n < pieces → All (λ k. k < n) xs → pieces - after_last (xs ++ n ∷ []) < pieces - after_last xs
draw_falls pieces xs n within all =
    let after = after_last-snoc xs n in
    let before = after_last-le n xs all in
    omega arith
