-- The longest front of a few entries from a position on.
use Rattle.std.proofs.Common.{◌≡◌, refl, sym, ap, ◌∙◌, ℕ, ◌-◌, ◌<◌, ◌≤◌, min, Bool, true, false, List, [], ◌∷◌, length, map, take, drop, All, slice_index_or, arith}
use Rattle.std.specs.List.{take_while}
use Rattle.std.proofs.lemmas.List.{length-map, get_or-map, take-map, drop-map, take_min, take_rest, drop_all, take_all}
use Rattle.std.proofs.lemmas.List.Elements.{All-map}
use Rattle.std.proofs.lemmas.List.Sums.{prefix_len_is}

module _ {X : Type 0} (p : X → Bool) where
  pub take_while_is : (xs : List X) (n : ℕ) (d : X) → n ≤ length xs → ((k : ℕ) → k < n → p (slice_index_or xs k d) ≡ true) → (n < length xs → p (slice_index_or xs n d) ≡ false) → take_while p xs ≡ take n xs
  take_while_is xs n d h pass stop = ap (λ (k : ℕ). take k xs) (prefix_len_is p xs n d h pass stop)

  pub take_while_all : (xs : List X) → All (λ x. p x ≡ true) xs → take_while p xs ≡ xs
  take_while_all [] h = refl
  take_while_all (x ∷ xs) h =
      take_while_is (x ∷ xs) (length (x ∷ xs)) x (omega arith) (λ k l. h k x l) (λ l. absurd (omega arith))
      ∙ take_all (length (x ∷ xs)) (x ∷ xs) (omega arith)

  pub few_past : (xs : List X) (start n : ℕ) → length xs ≤ start → [] ≡ take_while p (take n (drop start xs))
  few_past xs start n h =
      let none : take n (drop start xs) ≡ [] = ap (take n) (drop_all start xs h) ∙ take_all n [] (omega arith) in
      sym (ap (λ (ys : List X). take_while p ys) none)

-- `ys` are at most n elements of `xs` from a position on.
module _ {X Y : Type 0} (f : X → Y) (xs : List X) (start n k : ℕ) (at_most : k ≡ min (length (take (length xs - start) (drop start xs))) n) where
  abbrev few : List X
  few = take k (take (length xs - start) (drop start xs))

  map_few : map f few ≡ take n (drop start (map f xs))
  map_few =
      let rest = take_rest xs start in
      let all : take k (take (length xs - start) (drop start xs)) ≡ take k (drop start xs) = ap (take k) rest in
      let long : k ≡ min n (length (drop start xs)) = omega (arith, at_most, ap length rest) in
      ap (map f) (all ∙ ap (λ (m : ℕ). take m (drop start xs)) long ∙ take_min n (drop start xs)) ∙ sym (take-map f n (drop start xs)) ∙ ap (take n) (sym (drop-map f start xs))

  module _ (p : Y → Bool) where
    pub few_stop : (len : ℕ) (x : X) → len < length few → p (f (slice_index_or few len x)) ≡ false → ((j : ℕ) (d : X) → j < len → p (f (slice_index_or few j d)) ≡ true) → map f (take len few) ≡ take_while p (take n (drop start (map f xs)))
    few_stop len x l stop pass =
        sym (take-map f len few)
        ∙ sym (take_while_is p (map f few) len (f x) (omega (arith, length-map few f))
        (λ j m. rw (get_or-map f few j x (f x) (omega arith)) (pass j x m))
        (λ m. rw (get_or-map f few len x (f x) l) stop))
        ∙ ap (λ (ys : List Y). take_while p ys) map_few

    pub few_pass : ((j : ℕ) (d : X) → j < length few → p (f (slice_index_or few j d)) ≡ true) → map f few ≡ take_while p (take n (drop start (map f xs)))
    few_pass pass =
        sym (take_while_all p (map f few) (All-map (λ (y : Y). p y ≡ true) f few pass))
        ∙ ap (λ (ys : List Y). take_while p ys) map_few
