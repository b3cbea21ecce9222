-- Parts of lists, by positions.
use Rattle.std.proofs.Common.{◌≡◌, refl, sym, ap, ◌∙◌, ℕ, ◌+◌, ◌-◌, ◌<◌, ◌≤◌, inl, inr, Bool, true, false, cond, List, [], ◌∷◌, ◌++◌, length, map, filter, take, drop, All, slice_index_or, sum_by, count_by, arith, add-zero}
use Rattle.std.specs.List.{AllPairs, enumerate_from}
use Rattle.std.proofs.lemmas.Bool.{cases_lt}
use Rattle.std.proofs.lemmas.List.{append_assoc, length-take, length-drop, length-append, get_or-take, get_or-drop, get_or_append_left, get_or-append_right, take-append-drop, take-take, take-map, drop-map, drop-take, drop-drop, drop_more}
use Rattle.std.proofs.lemmas.List.Elements.{All-head, All-tail, All-weaker}
use Rattle.std.proofs.lemmas.List.Sums.{sum_by-cons}
use Rattle.status_index.specs.Stretch.{part_of}

module _ {X : Type 0} (P : X → Type 0) (xs : List X) where
  pub All-take_from : (n : ℕ) → ((k : ℕ) (d : X) → k < n → k < length xs → P (slice_index_or xs k d)) → All P (take n xs)
  All-take_from n h k d l =
      let low : k < n = omega (arith, length-take n xs) in
      rw (get_or-take n xs k d low) (h k d low (omega (arith, length-take n xs)))

  pub All-drop_from : (n : ℕ) → ((k : ℕ) (d : X) → n ≤ k → k < length xs → P (slice_index_or xs k d)) → All P (drop n xs)
  All-drop_from n h k d l =
      rw (get_or-drop n xs k d) (h (n + k) d (omega arith) (omega (arith, length-drop n xs)))

  pub All-take_at : (n : ℕ) → All P (take n xs) → (k : ℕ) (d : X) → k < n → k < length xs → P (slice_index_or xs k d)
  All-take_at n h k d low l = rw (get_or-take n xs k d low) at (h k d (omega (arith, length-take n xs)))

  pub All-drop_at : (n : ℕ) → All P (drop n xs) → (k : ℕ) (d : X) → n ≤ k → k < length xs → P (slice_index_or xs k d)
  All-drop_at n h k d low l =
      let here : n + (k - n) ≡ k = omega arith in
      rw (get_or-drop n xs (k - n) d, here) at (h (k - n) d (omega (arith, length-drop n xs)))

module _ {X : Type 0} (xs : List X) (a b : ℕ) where
  pub length-part : b ≤ length xs → length (part_of xs a b) ≡ b - a
  length-part h = omega (arith, length-take (b - a) (drop a xs), length-drop a xs)

  pub get_or-part : (k : ℕ) (d : X) → k < b - a → slice_index_or (part_of xs a b) k d ≡ slice_index_or xs (a + k) d
  get_or-part k d h = get_or-take (b - a) (drop a xs) k d h ∙ get_or-drop a xs k d

  pub All-part_from : (P : X → Type 0) → ((k : ℕ) (d : X) → a ≤ k → k < b → k < length xs → P (slice_index_or xs k d)) → All P (part_of xs a b)
  All-part_from P h k d l =
      let low : k < b - a = omega (arith, length-take (b - a) (drop a xs)) in
      rw (get_or-part k d low) (h (a + k) d (omega arith) (omega arith) (omega (arith, length-take (b - a) (drop a xs), length-drop a xs)))

  pub All-part_at : (P : X → Type 0) → All P (part_of xs a b) → (k : ℕ) (d : X) → a ≤ k → k < b → k < length xs → P (slice_index_or xs k d)
  All-part_at P h k d low high l =
      let here : a + (k - a) ≡ k = omega arith in
      rw (get_or-part (k - a) d (omega arith), here) at (h (k - a) d (omega (arith, length-take (b - a) (drop a xs), length-drop a xs)))

  pub AllPairs-part : (R : X → X → Type 0) → AllPairs R xs → AllPairs R (part_of xs a b)
  AllPairs-part R h i j d l m =
      let high : j < b - a = omega (arith, length-take (b - a) (drop a xs)) in
      rw (get_or-part i d (omega arith), get_or-part j d high)
      (h (a + i) (a + j) d (omega arith) (omega (arith, length-take (b - a) (drop a xs), length-drop a xs)))

  pub list_split : a ≤ b → xs ≡ (take a xs ++ part_of xs a b) ++ drop b xs
  list_split h =
      let far : a + (b - a) ≡ b = omega arith in
      let rest : part_of xs a b ++ drop b xs ≡ drop a xs = ap (λ (k : ℕ). part_of xs a b ++ drop k xs) (sym far)
      ∙ ap (λ (ys : List X). part_of xs a b ++ ys) (sym (drop-drop (b - a) a xs)) ∙ take-append-drop (b - a) (drop a xs) in
      sym (append_assoc (take a xs) (part_of xs a b) (drop b xs) ∙ ap (λ (ys : List X). take a xs ++ ys) rest ∙ take-append-drop a xs)

  pub part_split : (c : ℕ) → a ≤ b → b ≤ c → part_of xs a c ≡ part_of xs a b ++ part_of xs b c
  part_split c h l =
      let long : c - a ≡ (b - a) + (c - b) = omega arith in
      let far : a + (b - a) ≡ b = omega arith in
      let front : take (b - a) (part_of xs a c) ≡ part_of xs a b = take-take (b - a) (c - a) (drop a xs) (omega arith) in
      let back : drop (b - a) (part_of xs a c) ≡ part_of xs b c = ap (λ (n : ℕ). drop (b - a) (take n (drop a xs))) long
      ∙ drop-take (b - a) (c - b) (drop a xs) ∙ ap (take (c - b)) (drop-drop (b - a) a xs ∙ ap (λ (n : ℕ). drop n xs) far) in
      sym (take-append-drop (b - a) (part_of xs a c)) ∙ ap (λ (ys : List X). ys ++ drop (b - a) (part_of xs a c)) front
      ∙ ap (λ (ys : List X). part_of xs a b ++ ys) back

module _ {X : Type 0} where
  pub take_part : (xs : List X) (a b : ℕ) → a ≤ b → take b xs ≡ take a xs ++ part_of xs a b
  take_part xs a b h =
      let far : b ≡ a + (b - a) = omega arith in
      let front : take a (take b xs) ≡ take a xs = take-take a b xs h in
      let back : drop a (take b xs) ≡ part_of xs a b = ap (λ (n : ℕ). drop a (take n xs)) far ∙ drop-take a (b - a) xs in
      sym (take-append-drop a (take b xs)) ∙ ap (λ (ys : List X). ys ++ drop a (take b xs)) front ∙ ap (λ (ys : List X). take a xs ++ ys) back

pub map-part : {X Y : Type 0} (f : X → Y) (xs : List X) (a b : ℕ) → map f (part_of xs a b) ≡ part_of (map f xs) a b
map-part f xs a b = sym (take-map f (b - a) (drop a xs)) ∙ ap (take (b - a)) (sym (drop-map f a xs))

-- 1 or 0
abbrev pub weight : Bool → ℕ
weight b = cond b 1 0

module _ {X : Type 0} where
  pub part_none : (xs : List X) (a : ℕ) → part_of xs a a ≡ []
  part_none xs a =
      let none : a - a ≡ 0 = omega arith in
      ap (λ (n : ℕ). take n (drop a xs)) none

  pub part_one : (xs : List X) (a : ℕ) (x : X) → a < length xs → ((d : X) → slice_index_or xs a d ≡ x) → part_of xs a (a + 1) ≡ x ∷ []
  part_one xs a x h here =
      let one : a + 1 - a ≡ 1 = omega arith in
      ap (λ (n : ℕ). take n (drop a xs)) one ∙ ap (take 1) (drop_more xs a x h ∙ ap (λ (y : X). y ∷ drop (a + 1) xs) (here x))

  pub AllPairs-append : (R : X → X → Type 0) (xs ys : List X) → AllPairs R xs → AllPairs R ys → ((i j : ℕ) (d : X) → i < length xs → j < length ys → R (slice_index_or xs i d) (slice_index_or ys j d)) → AllPairs R (xs ++ ys)
  AllPairs-append R xs ys h k across i j d l m =
      elim (cases_lt j (length xs)) [
        | inl first ↦ rw (get_or_append_left xs ys d i (omega arith), get_or_append_left xs ys d j first) (h i j d l first)
        | inr last ↦
            let right = get_or-append_right xs ys (length xs) j d refl last in
            elim (cases_lt i (length xs)) [
              | inl first ↦ rw (get_or_append_left xs ys d i first, right) (across i (j - length xs) d first (omega (arith, length-append xs ys)))
              | inr both ↦ rw (get_or-append_right xs ys (length xs) i d refl both, right) (k (i - length xs) (j - length xs) d (omega arith) (omega (arith, length-append xs ys)))
            ]
      ]

  pub enumerate-append : (n : ℕ) (xs ys : List X) → enumerate_from n (xs ++ ys) ≡ enumerate_from n xs ++ enumerate_from (n + length xs) ys
  enumerate-append n [] ys = ap (λ (k : ℕ). enumerate_from k ys) (sym (add-zero n))
  enumerate-append n (x ∷ xs) ys =
      let e : (n + 1) + length xs ≡ n + length (x ∷ xs) = omega arith in
      ap (λ (zs : List (ℕ × X)). (n, x) ∷ zs) (enumerate-append (n + 1) xs ys ∙ ap (λ (k : ℕ). enumerate_from (n + 1) xs ++ enumerate_from k ys) e)

  pub filter_none : (p : X → Bool) (xs : List X) → All (λ x. p x ≡ false) xs → filter p xs ≡ []
  filter_none p [] h = refl
  filter_none p (x ∷ xs) h =
      rw (All-head (λ (y : X). p y ≡ false) x xs h) (filter_none p xs (All-tail (λ (y : X). p y ≡ false) x xs h))

  pub filter_all : (p : X → Bool) (xs : List X) → All (λ x. p x ≡ true) xs → filter p xs ≡ xs
  filter_all p [] h = refl
  filter_all p (x ∷ xs) h =
      rw (All-head (λ (y : X). p y ≡ true) x xs h) (ap (λ (ys : List X). x ∷ ys) (filter_all p xs (All-tail (λ (y : X). p y ≡ true) x xs h)))

  pub sum_by_none : (f : X → ℕ) (xs : List X) → All (λ x. f x ≡ 0) xs → sum_by f xs ≡ 0
  sum_by_none f [] h = refl
  sum_by_none f (x ∷ xs) h =
      omega (arith, sum_by-cons f x xs, All-head (λ (y : X). f y ≡ 0) x xs h, sum_by_none f xs (All-tail (λ (y : X). f y ≡ 0) x xs h))

  -- A count to which only the first element can add one.
  pub count_first : (p : X → Bool) (x : X) (xs : List X) → All (λ y. p y ≡ false) xs → count_by p (x ∷ xs) ≡ cond (p x) 1 0
  count_first p x xs h =
      omega (arith, sum_by-cons (λ (y : X). weight (p y)) x xs, sum_by_none (λ (y : X). weight (p y)) xs (All-weaker (λ (y : X). p y ≡ false) (λ (y : X). weight (p y) ≡ 0) (λ y e. rw e) xs h))
