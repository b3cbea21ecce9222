-- Two lists that are sorted by key, joined from the front.
use Rattle.std.proofs.Common.{◌≡◌, refl, sym, ap, ◌∙◌, ℕ, ◌+◌, ◌-◌, ◌<◌, ◌≤◌, ◌⊎◌, inl, inr, Bool, true, false, cond, List, [], ◌∷◌, ◌++◌, length, map, drop, slice_index_or, All, arith}
use Rattle.std.specs.Cmp.{IsTotalOrder}
use Rattle.std.specs.List.{filter, zip}
use Rattle.std.specs.List.Sorted.{IsSortedBy, IsSortedByKey}
use Rattle.std.specs.Ordering.{is_lt, is_eq, ordering_reverse}
use Rattle.std.specs.declared.cmp.Ordering.{Ordering}
use Rattle.std.specs.declared.cmp.Ordering.TheVariants.{Less, Equal, Greater}
use Rattle.std.proofs.lemmas.Bool.{false≢true}
use Rattle.std.proofs.lemmas.List.{append-nil, append_assoc, drop-drop, drop_all, map-append, length-drop, get_or-drop, get_or_read}
use Rattle.std.proofs.lemmas.List.Elements.{All-head, All-push, All-same, All-drop, All-weaker, filter-append}
use Rattle.std.proofs.lemmas.List.Kept.{IsSortedBy-push}
use Rattle.std.proofs.lemmas.List.Sorted.{ranks_by, sorted_far}
use Rattle.status_rewrites.proofs.Lists.{zip-nil, filter_none, drop_read}

pub equal_from : (r : Ordering) → is_eq r ≡ true → r ≡ Equal
equal_from Less h = absurd (false≢true h)
equal_from Equal h = refl
equal_from Greater h = absurd (false≢true h)

-- Elements have keys with an order R, and two of them make a P.
module _ {A K P : Type 0} (R : K → K → Ordering) (o : IsTotalOrder R) (f : A → K) (pair : A × A → P) where
  -- A key that isn't below b isn't like k, if k is like a, and a is below b.
  apart_at : (a b c k : K) (r : Ordering) → R c k ≡ r → R a b ≡ Less → is_lt (R c b) ≡ false → R a k ≡ Equal → is_eq r ≡ false
  apart_at a b c k Less e lt far like = refl
  apart_at a b c k Equal e lt far like =
      absurd (false≢true (sym far ∙ ap is_lt (o.congr c k b e ∙ sym (o.congr a k b like) ∙ lt)))
  apart_at a b c k Greater e lt far like = refl

  -- No element from a position on is below the one at it.
  far_from : (xs : List A) (i : ℕ) (x : A) → IsSortedByKey f R xs → i < length xs → x ≡ slice_index_or xs i x → All (λ z. is_lt (R (f z) (f x)) ≡ false) (drop i xs)
  far_from xs i x up h e k d within =
      let inside : i + k < length xs = omega (arith, length-drop i xs) in
      let there : slice_index_or (drop i xs) k d ≡ slice_index_or xs (i + k) d = get_or-drop i xs k d in
      let here : x ≡ slice_index_or xs i d = get_or_read xs i x h e d in
      let far = sorted_far (λ a b. is_lt (R (f a) (f b))) (ranks_by o f) xs up i (i + k) d (omega arith) inside in
      ap (λ z. is_lt (R (f z) (f x))) there ∙ ap (λ z. is_lt (R (f (slice_index_or xs (i + k) d)) (f z))) here ∙ far

  -- If a is below the element at a position and is like k, no element from there on is like k.
  none_alike : (a : A) (k : K) (xs : List A) (i : ℕ) (x : A) → IsSortedByKey f R xs → i < length xs → x ≡ slice_index_or xs i x → R (f a) (f x) ≡ Less → is_eq (R (f a) k) ≡ true → filter (λ z. is_eq (R (f z) k)) (drop i xs) ≡ []
  none_alike a k xs i x up h e lt like =
      filter_none (λ z. is_eq (R (f z) k)) (drop i xs)
      (All-weaker (λ z. is_lt (R (f z) (f x)) ≡ false) (λ z. is_eq (R (f z) k) ≡ false)
      (λ z far. apart_at (f a) (f x) (f z) k (R (f z) k) refl lt far (equal_from (R (f a) k) like))
      (drop i xs) (far_from xs i x up h e))

  -- The elements of a list with a key.
  abbrev pub of_key : K → List A → List A
  of_key k xs = filter (λ z. is_eq (R (f z) k)) xs

  abbrev of_key_first : K → List (A × A) → List (A × A)
  of_key_first k ms = filter (λ m. is_eq (R (f m.0) k)) ms

  skip_first_at : (k : K) (x : A) (gs ds : List A) (b : Bool) → is_eq (R (f x) k) ≡ b → (b ≡ true → of_key k ds ≡ []) → zip (cond b (x ∷ of_key k gs) (of_key k gs)) (of_key k ds) ≡ zip (of_key k gs) (of_key k ds)
  skip_first_at k x gs ds true e none =
      ap (λ v. zip (x ∷ of_key k gs) v) (none refl) ∙ sym (ap (λ v. zip (of_key k gs) v) (none refl) ∙ zip-nil (of_key k gs))
  skip_first_at k x gs ds false e none = refl

  skip_second_at : (k : K) (y : A) (ds cs : List A) (b : Bool) → is_eq (R (f y) k) ≡ b → (b ≡ true → of_key k ds ≡ []) → zip (of_key k ds) (cond b (y ∷ of_key k cs) (of_key k cs)) ≡ zip (of_key k ds) (of_key k cs)
  skip_second_at k y ds cs true e none =
      ap (λ v. zip v (y ∷ of_key k cs)) (none refl) ∙ sym (ap (λ v. zip v (of_key k cs)) (none refl))
  skip_second_at k y ds cs false e none = refl

  take_both_at : (b : Bool) (x y : A) (fs : List (A × A)) (gs cs : List A) → (fs ++ cond b ((x, y) ∷ []) []) ++ zip gs cs ≡ fs ++ zip (cond b (x ∷ gs) gs) (cond b (y ∷ cs) cs)
  take_both_at true x y fs gs cs = append_assoc fs ((x, y) ∷ []) (zip gs cs)
  take_both_at false x y fs gs cs = ap (λ v. v ++ zip gs cs) (append-nil fs)

  -- The matches and pairs after g and c elements.
  pub record Joined (gone came : List A) (g c : ℕ) (pairs : List P) : Type 0 where
    pub matched : List (A × A)
    pub are : pairs ≡ map pair matched
    pub by_key : IsSortedBy (λ a b. is_lt (R (f a.0) (f b.0))) matched
    -- No element that is left is below a matched one.
    pub low : All (λ m. All (λ z. is_lt (R (f z) (f m.0)) ≡ false) (drop g gone)) matched
    pub rest : (k : K) → of_key_first k matched ++ zip (of_key k (drop g gone)) (of_key k (drop c came)) ≡ zip (of_key k gone) (of_key k came)

  next_low : (gone : List A) (g : ℕ) (m : A) → All (λ z. is_lt (R (f z) (f m)) ≡ false) (drop g gone) → All (λ z. is_lt (R (f z) (f m)) ≡ false) (drop (g + 1) gone)
  next_low gone g m h =
      All-same (λ z. is_lt (R (f z) (f m)) ≡ false) (drop (g + 1) gone) (drop 1 (drop g gone)) (sym (drop-drop 1 g gone))
      (All-drop (λ z. is_lt (R (f z) (f m)) ≡ false) 1 (drop g gone) h)

  next_lows : (gone : List A) (g : ℕ) (ms : List (A × A)) → All (λ m. All (λ z. is_lt (R (f z) (f m.0)) ≡ false) (drop g gone)) ms → All (λ m. All (λ z. is_lt (R (f z) (f m.0)) ≡ false) (drop (g + 1) gone)) ms
  next_lows gone g ms h =
      All-weaker (λ m. All (λ z. is_lt (R (f z) (f m.0)) ≡ false) (drop g gone)) (λ m. All (λ z. is_lt (R (f z) (f m.0)) ≡ false) (drop (g + 1) gone)) (λ m low. next_low gone g m.0 low) ms h

  module _ (gone came : List A) (g c : ℕ) (pairs : List P) (x y : A) (in_gone : g < length gone) (in_came : c < length came) (x_is : x ≡ slice_index_or gone g x) (y_is : y ≡ slice_index_or came c y) (gone_up : IsSortedByKey f R gone) (came_up : IsSortedByKey f R came) (j : Joined gone came g c pairs) where
    gone_more : drop g gone ≡ x ∷ drop (g + 1) gone
    gone_more = drop_read gone g x in_gone x_is

    came_more : drop c came ≡ y ∷ drop (c + 1) came
    came_more = drop_read came c y in_came y_is

    pub skip_first : R (f x) (f y) ≡ Less → Joined gone came (g + 1) c pairs
    skip_first lt = record {
      matched = j.matched;
      are = j.are;
      by_key = j.by_key;
      low = next_lows gone g j.matched j.low;
      rest = λ k.
          ap (λ v. of_key_first k j.matched ++ v)
          (sym (ap (λ v. zip (of_key k v) (of_key k (drop c came))) gone_more
          ∙ skip_first_at k x (drop (g + 1) gone) (drop c came) (is_eq (R (f x) k)) refl (λ like. none_alike x k came c y came_up in_came y_is lt like)))
          ∙ j.rest k;
    }

    below_reversed : (r : Ordering) → R (f x) (f y) ≡ Greater → r ≡ ordering_reverse (R (f x) (f y)) → r ≡ Less
    below_reversed r gt e = e ∙ ap ordering_reverse gt

    pub skip_second : R (f x) (f y) ≡ Greater → Joined gone came g (c + 1) pairs
    skip_second gt = record {
      matched = j.matched;
      are = j.are;
      by_key = j.by_key;
      low = j.low;
      rest = λ k.
          ap (λ v. of_key_first k j.matched ++ v)
          (sym (ap (λ v. zip (of_key k (drop g gone)) (of_key k v)) came_more
          ∙ skip_second_at k y (drop g gone) (drop (c + 1) came) (is_eq (R (f y) k)) refl (λ like. none_alike y k gone g x gone_up in_gone x_is (below_reversed (R (f y) (f x)) gt (o.antisymm (f y) (f x))) like)))
          ∙ j.rest k;
    }

    x_low : All (λ z. is_lt (R (f z) (f x)) ≡ false) (drop (g + 1) gone)
    x_low = next_low gone g x (far_from gone g x gone_up in_gone x_is)

    -- The last pair isn't above the new one.
    last_low : (d : A × A) → 0 < length j.matched → is_lt (R (f x) (f (slice_index_or j.matched (length j.matched - 1) d).0)) ≡ false
    last_low d some =
        let last = slice_index_or j.matched (length j.matched - 1) d in
        All-head (λ z. is_lt (R (f z) (f last.0)) ≡ false) x (drop (g + 1) gone)
        (All-same (λ z. is_lt (R (f z) (f last.0)) ≡ false) (x ∷ drop (g + 1) gone) (drop g gone) (sym gone_more)
        (j.low (length j.matched - 1) d (omega arith)))

    both_of_key : (k : K) → is_eq (R (f y) k) ≡ is_eq (R (f x) k) → of_key_first k (j.matched ++ (x, y) ∷ []) ++ zip (of_key k (drop (g + 1) gone)) (of_key k (drop (c + 1) came)) ≡ of_key_first k j.matched ++ zip (of_key k (drop g gone)) (of_key k (drop c came))
    both_of_key k same =
        ap (λ v. v ++ zip (of_key k (drop (g + 1) gone)) (of_key k (drop (c + 1) came))) (filter-append (λ (m : A × A). is_eq (R (f m.0) k)) j.matched ((x, y) ∷ []))
        ∙ take_both_at (is_eq (R (f x) k)) x y (of_key_first k j.matched) (of_key k (drop (g + 1) gone)) (of_key k (drop (c + 1) came))
        ∙ ap (λ b. of_key_first k j.matched ++ zip (of_key k (x ∷ drop (g + 1) gone)) (cond b (y ∷ of_key k (drop (c + 1) came)) (of_key k (drop (c + 1) came)))) (sym same)
        ∙ ap (λ v. of_key_first k j.matched ++ zip (of_key k v) (of_key k (y ∷ drop (c + 1) came))) (sym gone_more)
        ∙ ap (λ v. of_key_first k j.matched ++ zip (of_key k (drop g gone)) (of_key k v)) (sym came_more)

    pub take_both : R (f x) (f y) ≡ Equal → Joined gone came (g + 1) (c + 1) (pairs ++ pair (x, y) ∷ [])
    take_both eq = record {
      matched = j.matched ++ (x, y) ∷ [];
      are = ap (λ v. v ++ pair (x, y) ∷ []) j.are ∙ sym (map-append pair j.matched ((x, y) ∷ []));
      by_key = IsSortedBy-push (λ a b. is_lt (R (f a.0) (f b.0))) j.matched (x, y) j.by_key last_low;
      low = All-push (λ m. All (λ z. is_lt (R (f z) (f m.0)) ≡ false) (drop (g + 1) gone)) j.matched (x, y) (next_lows gone g j.matched j.low) x_low;
      rest = λ k. both_of_key k (ap is_eq (sym (o.congr (f x) (f y) k eq))) ∙ j.rest k;
    }

  pub joined_all : (gone came : List A) (g c : ℕ) (pairs : List P) → (length gone ≤ g) ⊎ (length came ≤ c) → (j : Joined gone came g c pairs) (k : K) → of_key_first k j.matched ≡ zip (of_key k gone) (of_key k came)
  joined_all gone came g c pairs (inl done) j k =
      sym (append-nil (of_key_first k j.matched))
      ∙ ap (λ v. of_key_first k j.matched ++ zip (of_key k v) (of_key k (drop c came))) (sym (drop_all g gone done))
      ∙ j.rest k
  joined_all gone came g c pairs (inr done) j k =
      sym (append-nil (of_key_first k j.matched))
      ∙ ap (λ v. of_key_first k j.matched ++ v) (sym (zip-nil (of_key k (drop g gone))))
      ∙ ap (λ v. of_key_first k j.matched ++ zip (of_key k (drop g gone)) (of_key k v)) (sym (drop_all c came done))
      ∙ j.rest k
