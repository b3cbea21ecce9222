-- The identity pairs break no rule.
use Rattle.std.proofs.Common.{◌≡◌, refl, sym, ap, subst, ◌∙◌, ℕ, ◌+◌, ◌<◌, ◌≤◌, Bool, true, false, cond, ◌&&◌, List, [], ◌∷◌, length, map, slice_index_or, Option, Some, None, All, arith, ◌==◌}
use Rattle.std.specs.List.{filter, zip, enumerate_from, slice_get, count_by}
use Rattle.std.specs.Ordering.{is_eq}
use Rattle.std.proofs.lemmas.Bool.{and_parts, eqb-true, ne_eqb, false≢true}
use Rattle.std.proofs.lemmas.Cmp.{tied_itself, tied_back}
use Rattle.std.proofs.lemmas.List.{length-map}
use Rattle.std.proofs.lemmas.List.Elements.{All-nil, All-cons, All-head, All-tail, All-same, All-map, All-weaker, All-filter, filter_passes}
use Rattle.std.proofs.lemmas.List.FromFn.{length-enumerate_from, get_or-enumerate_from}
use Rattle.std.proofs.lemmas.List.Sorted.{All-permutation, sum_by-IsPermutation}
use Rattle.std.proofs.lemmas.List.Sums.{length-filter}
use Rattle.std.proofs.lemmas.Option.{none-some, same_Some, slice_get-get_or}
use Rattle.status_rewrites.specs.declared.tracker.ChangeKind.{ChangeKind}
use Rattle.status_rewrites.specs.declared.tracker.ChangeKind.TheVariants.{Deletion, Addition}
use Rattle.status_rewrites.specs.declared.tracker.Pair.{Pair}
use Rattle.status_rewrites.specs.TrackedChanges.{Changed}
use Rattle.status_rewrites.specs.IdentityPairs.{NumberedChange, key_cmp, are_alike, is_on, may_stand, row, rename, AreIdentityPairs}
use Rattle.status_rewrites.specs.Renames.{StandsAt, AreRenames}
use Rattle.status_rewrites.proofs.Joining.{equal_from}
use Rattle.status_rewrites.proofs.Keys.{key_total}
use Rattle.status_rewrites.proofs.Lists.{filter-map, filter_none}

-- ---- lists

tail_of : {X : Type 0} (Q : X → Type 0) (b : Bool) (x : X) (xs : List X) → All Q (cond b (x ∷ xs) xs) → All Q xs
tail_of Q true x xs h = All-tail Q x xs h
tail_of Q false x xs h = h

zip_parts : {X : Type 0} (P Q : X → Type 0) (xs ys : List X) → All P xs → All Q ys → All (λ (m : X × X). P m.0 × Q m.1) (zip xs ys)
zip_parts P Q [] ys h k = All-nil (λ (m : _ × _). P m.0 × Q m.1)
zip_parts P Q (x ∷ xs) [] h k = All-nil (λ (m : _ × _). P m.0 × Q m.1)
zip_parts P Q (x ∷ xs) (y ∷ ys) h k =
    All-cons (λ (m : _ × _). P m.0 × Q m.1) (x, y) (zip xs ys) (All-head P x xs h, All-head Q y ys k) (zip_parts P Q xs ys (All-tail P x xs h) (All-tail Q y ys k))

kept_step : {X : Type 0} (p : X → Bool) (x : X) (c b : Bool) → p x ≡ b → (b ≡ true → c ≡ true) → (kept xs : List X) → kept ≡ filter p xs → cond b (x ∷ kept) kept ≡ filter p (cond c (x ∷ xs) xs)
kept_step p x true b e implies kept xs h =
    ap (λ v. cond b (x ∷ v) v) h ∙ ap (λ v. cond v (x ∷ filter p xs) (filter p xs)) (sym e)
kept_step p x false true e implies kept xs h = absurd (false≢true (implies refl))
kept_step p x false false e implies kept xs h = h

-- If one test implies another, it may be applied after the other.
filter_kept : {X : Type 0} (p q : X → Bool) (xs : List X) → All (λ x. p x ≡ true → q x ≡ true) xs → filter p xs ≡ filter p (filter q xs)
filter_kept p q [] h = refl
filter_kept p q (x ∷ xs) h =
    kept_step p x (q x) (p x) refl (All-head (λ y. p y ≡ true → q y ≡ true) x xs h) (filter p xs) (filter q xs) (filter_kept p q xs (All-tail (λ y. p y ≡ true → q y ≡ true) x xs h))

fewer_step : {X : Type 0} (p : X → Bool) (x : X) (c b : Bool) → p x ≡ b → (xs kept : List X) → length (filter p xs) ≤ length kept → length (filter p (cond c (x ∷ xs) xs)) ≤ length (cond b (x ∷ kept) kept)
fewer_step p x true true e xs kept h =
    subst (λ v. length (cond v (x ∷ filter p xs) (filter p xs)) ≤ length (x ∷ kept)) (sym e) (omega (arith, h))
fewer_step p x true false e xs kept h =
    subst (λ v. length (cond v (x ∷ filter p xs) (filter p xs)) ≤ length kept) (sym e) h
fewer_step p x false true e xs kept h = omega (arith, h)
fewer_step p x false false e xs kept h = h

filter_fewer : {X : Type 0} (p q : X → Bool) (xs : List X) → length (filter p (filter q xs)) ≤ length (filter p xs)
filter_fewer p q [] = omega arith
filter_fewer p q (x ∷ xs) = fewer_step p x (q x) (p x) refl (filter q xs) (filter p xs) (filter_fewer p q xs)

both_more : {X Y : Type 0} (b : Bool) (x : X) (y : Y) (xs : List X) (ys : List Y) → length xs ≤ length ys → length (cond b (x ∷ xs) xs) ≤ length (cond b (y ∷ ys) ys)
both_more true x y xs ys h = omega (arith, h)
both_more false x y xs ys h = h

zip_fewer_first : {X Y : Type 0} (p : X → Bool) (xs : List X) (ys : List Y) → length (filter (λ (m : X × Y). p m.0) (zip xs ys)) ≤ length (filter p xs)
zip_fewer_first p [] ys = omega arith
zip_fewer_first p (x ∷ xs) [] = omega arith
zip_fewer_first p (x ∷ xs) (y ∷ ys) =
    both_more (p x) (x, y) x (filter (λ m. p m.0) (zip xs ys)) (filter p xs) (zip_fewer_first p xs ys)

zip_fewer_second : {X Y : Type 0} (p : Y → Bool) (xs : List X) (ys : List Y) → length (filter (λ (m : X × Y). p m.1) (zip xs ys)) ≤ length (filter p ys)
zip_fewer_second p [] ys = omega arith
zip_fewer_second p (x ∷ xs) [] = omega arith
zip_fewer_second p (x ∷ xs) (y ∷ ys) =
    both_more (p y) (x, y) y (filter (λ m. p m.1) (zip xs ys)) (filter p ys) (zip_fewer_second p xs ys)

-- ---- places

none_later : {X : Type 0} (n : ℕ) (xs : List X) (i : ℕ) → i < n → filter (λ (y : ℕ × X). y.0 == i) (enumerate_from n xs) ≡ []
none_later n [] i h = refl
none_later n (x ∷ xs) i h =
    let rest = filter (λ (y : ℕ × _). y.0 == i) (enumerate_from (n + 1) xs) in
    ap (λ b. cond b ((n, x) ∷ rest) rest) (ne_eqb n i (λ e. omega (arith, e, h))) ∙ none_later (n + 1) xs i (omega (arith, h))

one_place_at : {X : Type 0} (n : ℕ) (x : X) (xs : List X) (i : ℕ) (b : Bool) → (n == i) ≡ b → length (filter (λ (y : ℕ × X). y.0 == i) (enumerate_from (n + 1) xs)) ≤ 1 → length (cond b ((n, x) ∷ filter (λ (y : ℕ × X). y.0 == i) (enumerate_from (n + 1) xs)) (filter (λ (y : ℕ × X). y.0 == i) (enumerate_from (n + 1) xs))) ≤ 1
one_place_at n x xs i true e h =
    let same : n ≡ i = eqb-true n i e in
    subst (λ v. length ((n, x) ∷ v) ≤ 1) (sym (none_later (n + 1) xs i (omega (arith, same)))) (omega arith)
one_place_at n x xs i false e h = h

one_place : {X : Type 0} (n : ℕ) (xs : List X) (i : ℕ) → length (filter (λ (y : ℕ × X). y.0 == i) (enumerate_from n xs)) ≤ 1
one_place n [] i = omega arith
one_place n (x ∷ xs) i = one_place_at n x xs i (n == i) refl (one_place (n + 1) xs i)

placed_all : (xs : List Changed) → All (λ y. slice_get xs y.0 ≡ Some y.1) (enumerate_from 0 xs)
placed_all xs k d within =
    let inside : k < length xs = omega (arith, within, length-enumerate_from 0 xs) in
    let at : slice_get xs k ≡ Some (slice_index_or xs k d.1) = slice_get-get_or xs k d.1 inside in
    let zero : 0 + k ≡ k = omega arith in
    let is : slice_index_or (enumerate_from 0 xs) k d ≡ (0 + k, slice_index_or xs k d.1) = get_or-enumerate_from 0 xs k d inside in
    subst (λ y. slice_get xs y.0 ≡ Some y.1) (sym is) (ap (slice_get xs) zero ∙ at)

-- ---- rows

first_of_four : (a b c d : Bool) → (a && b && c && d) ≡ true → a ≡ true
first_of_four a b c d h = (and_parts a b (and_parts (a && b) c (and_parts (a && b && c) d h).0).0).0

stands_on : (side : ChangeKind) (track_empty : Bool) (x : Changed) → may_stand side track_empty x ≡ true → is_on x.kind side ≡ true
unfolding may_stand
stands_on side track_empty x h = first_of_four _ _ _ _ h

alike_itself : (x : Changed) → are_alike x x ≡ true
alike_itself x = ap is_eq (tied_itself key_total x)

alike_both : (a b k : Changed) → are_alike a k ≡ true → are_alike b k ≡ true → are_alike a b ≡ true
alike_both a b k of_a of_b =
    ap is_eq (key_total.congr a k b (equal_from (key_cmp a k) of_a) ∙ tied_back key_total b k (equal_from (key_cmp b k) of_b))

-- An element of a row: a change of the list, with the row's side and key.
record IsInRow (xs : List Changed) (side : ChangeKind) (key : Changed) (y : NumberedChange) : Type 0 where
  placed : slice_get xs y.0 ≡ Some y.1
  on : is_on y.1.kind side ≡ true
  like : are_alike y.1 key ≡ true

-- A pair of elements at the same position of two rows.
record IsMatch (xs : List Changed) (m : NumberedChange × NumberedChange) : Type 0 where
  first : slice_get xs m.0.0 ≡ Some m.0.1
  deleted : is_on m.0.1.kind Deletion ≡ true
  second : slice_get xs m.1.0 ≡ Some m.1.1
  added : is_on m.1.1.kind Addition ≡ true
  like : are_alike m.0.1 m.1.1 ≡ true

in_row : (xs : List Changed) (side : ChangeKind) (track_empty : Bool) (key : Changed) (ordered : List NumberedChange) → All (λ y. slice_get xs y.0 ≡ Some y.1) ordered → All (IsInRow xs side key) (row side track_empty key ordered)
in_row xs side track_empty key ordered placed k d within =
    let may : NumberedChange → Bool = λ y. may_stand side track_empty y.1 in
    let alike : NumberedChange → Bool = λ y. are_alike y.1 key in
    record {
      placed = All-filter alike (λ y. slice_get xs y.0 ≡ Some y.1) (filter may ordered) (All-filter may (λ y. slice_get xs y.0 ≡ Some y.1) ordered placed) k d within;
      on = stands_on side track_empty _ (All-filter alike (λ y. may y ≡ true) (filter may ordered) (filter_passes may ordered) k d within);
      like = filter_passes alike (filter may ordered) k d within;
    }

-- A fact of the pairs of each key is a fact of all pairs.
all_from_rows : (Q : NumberedChange × NumberedChange → Type 0) (ms : List (NumberedChange × NumberedChange)) → ((key : Changed) → All Q (filter (λ m. are_alike m.0.1 key) ms)) → All Q ms
all_from_rows Q [] h = All-nil Q
all_from_rows Q (m ∷ ms) h =
    let rest = filter (λ (n : NumberedChange × NumberedChange). are_alike n.0.1 m.0.1) ms in
    let here = All-same Q (m ∷ rest) (cond (are_alike m.0.1 m.0.1) (m ∷ rest) rest) (sym (ap (λ b. cond b (m ∷ rest) rest) (alike_itself m.0.1))) (h m.0.1) in
    All-cons Q m ms (All-head Q m rest here)
    (all_from_rows Q ms (λ key. tail_of Q (are_alike m.0.1 key) m (filter (λ n. are_alike n.0.1 key) ms) (h key)))

-- ---- pairs

module _ (track_empty : Bool) (xs : List Changed) (pairs : List Pair) (p : AreIdentityPairs track_empty xs pairs) where
  placed : All (λ y. slice_get xs y.0 ≡ Some y.1) p.ordered
  placed = All-permutation (λ y. slice_get xs y.0 ≡ Some y.1) (enumerate_from 0 xs) p.ordered p.bag (placed_all xs)

  matches_of : (key : Changed) → All (IsMatch xs) (zip (row Deletion track_empty key p.ordered) (row Addition track_empty key p.ordered))
  matches_of key =
      All-weaker (λ (m : NumberedChange × NumberedChange). IsInRow xs Deletion key m.0 × IsInRow xs Addition key m.1) (IsMatch xs)
      (λ m r. record { first = r.0.placed; deleted = r.0.on; second = r.1.placed; added = r.1.on; like = alike_both m.0.1 m.1.1 key r.0.like r.1.like })
      (zip (row Deletion track_empty key p.ordered) (row Addition track_empty key p.ordered))
      (zip_parts (IsInRow xs Deletion key) (IsInRow xs Addition key) _ _ (in_row xs Deletion track_empty key p.ordered placed) (in_row xs Addition track_empty key p.ordered placed))

  matches : All (IsMatch xs) p.matched
  matches = all_from_rows (IsMatch xs) p.matched (λ key. All-same (IsMatch xs) _ _ (p.each key) (matches_of key))

  -- A position is in the list of all changes at most once.
  once : (i : ℕ) → length (filter (λ (y : NumberedChange). y.0 == i) p.ordered) ≤ 1
  once i =
      let here : NumberedChange → Bool = λ y. y.0 == i in
      let same : count_by here p.ordered ≡ count_by here (enumerate_from 0 xs) = sum_by-IsPermutation (λ y. cond (here y) 1 0) (enumerate_from 0 xs) p.ordered p.bag in
      omega (arith, length-filter here p.ordered, same, length-filter here (enumerate_from 0 xs), one_place 0 xs i)

  in_row_once : (side : ChangeKind) (key : Changed) (i : ℕ) → length (filter (λ (y : NumberedChange). y.0 == i) (row side track_empty key p.ordered)) ≤ 1
  in_row_once side key i =
      let here : NumberedChange → Bool = λ y. y.0 == i in
      let may : NumberedChange → Bool = λ y. may_stand side track_empty y.1 in
      let alike : NumberedChange → Bool = λ y. are_alike y.1 key in
      omega (arith, filter_fewer here alike (filter may p.ordered), filter_fewer here may p.ordered, once i)

  -- A position is one part of one pair at most.
  part_once : (part : NumberedChange × NumberedChange → NumberedChange) → All (λ m. (slice_get xs (part m).0 ≡ Some (part m).1) × (are_alike m.0.1 (part m).1 ≡ true)) p.matched → (i : ℕ) → ((key : Changed) → length (filter (λ m. (part m).0 == i) (zip (row Deletion track_empty key p.ordered) (row Addition track_empty key p.ordered))) ≤ 1) → (found : Option Changed) → slice_get xs i ≡ found → length (filter (λ m. (part m).0 == i) p.matched) ≤ 1
  part_once part are i few None e =
      let none : filter (λ m. (part m).0 == i) p.matched ≡ [] =
      filter_none (λ m. (part m).0 == i) p.matched
      (All-weaker (λ m. (slice_get xs (part m).0 ≡ Some (part m).1) × (are_alike m.0.1 (part m).1 ≡ true)) (λ m. ((part m).0 == i) ≡ false)
      (λ m a. ne_eqb (part m).0 i (λ same. none-some (part m).1 (sym e ∙ ap (slice_get xs) (sym same) ∙ a.0))) p.matched are) in
      subst (λ v. length v ≤ 1) (sym none) (omega arith)
  part_once part are i few (Some x) e =
      let here : NumberedChange × NumberedChange → Bool = λ m. (part m).0 == i in
      let alike : NumberedChange × NumberedChange → Bool = λ m. are_alike m.0.1 x in
      let kept : filter here p.matched ≡ filter here (filter alike p.matched) =
      filter_kept here alike p.matched
      (All-weaker (λ m. (slice_get xs (part m).0 ≡ Some (part m).1) × (are_alike m.0.1 (part m).1 ≡ true)) (λ m. here m ≡ true → alike m ≡ true)
      (λ m a at. let same : (part m).1 ≡ x = same_Some (part m).1 x (sym a.0 ∙ ap (slice_get xs) (eqb-true (part m).0 i at) ∙ e) in
      ap (are_alike m.0.1) (sym same) ∙ a.1) p.matched are) in
      subst (λ v. length v ≤ 1) (sym (kept ∙ ap (filter here) (p.each x))) (few x)

  -- A number is in the pairs as often as in the matches that they are made of.
  counted : (number : Pair → ℕ) (i : ℕ) → count_by (λ q. number q == i) pairs ≡ length (filter (λ m. number (rename m) == i) p.matched)
  counted number i =
      sym (length-filter (λ q. number q == i) pairs)
      ∙ ap (λ v. length (filter (λ q. number q == i) v)) p.are
      ∙ ap length (filter-map (λ q. number q == i) rename p.matched)
      ∙ length-map (filter (λ m. number (rename m) == i) p.matched) rename

  pub identity_pairs_are_lawful : AreRenames xs pairs
  identity_pairs_are_lawful = record {
    removed = All-same (λ q. StandsAt xs Deletion q.source) pairs (map rename p.matched) p.are
        (All-map (λ q. StandsAt xs Deletion q.source) rename p.matched
        (All-weaker (IsMatch xs) (λ m. StandsAt xs Deletion m.0.0) (λ m k. (m.0.1, k.first, k.deleted)) p.matched matches));
    added = All-same (λ q. StandsAt xs Addition q.destination) pairs (map rename p.matched) p.are
        (All-map (λ q. StandsAt xs Addition q.destination) rename p.matched
        (All-weaker (IsMatch xs) (λ m. StandsAt xs Addition m.1.0) (λ m k. (m.1.1, k.second, k.added)) p.matched matches));
    renamed = All-same (λ q. q.copy ≡ false) pairs (map rename p.matched) p.are
        (All-map (λ q. q.copy ≡ false) rename p.matched (λ k d within. refl));
    one_goes = λ i. subst (λ n. n ≤ 1) (sym (counted (λ q. q.source) i))
        (part_once (λ m. m.0)
        (All-weaker (IsMatch xs) (λ m. (slice_get xs m.0.0 ≡ Some m.0.1) × (are_alike m.0.1 m.0.1 ≡ true)) (λ m k. (k.first, alike_itself m.0.1)) p.matched matches)
        i (λ key. omega (arith, zip_fewer_first (λ (y : NumberedChange). y.0 == i) (row Deletion track_empty key p.ordered) (row Addition track_empty key p.ordered), in_row_once Deletion key i)) (slice_get xs i) refl);
    one_comes = λ i. subst (λ n. n ≤ 1) (sym (counted (λ q. q.destination) i))
        (part_once (λ m. m.1)
        (All-weaker (IsMatch xs) (λ m. (slice_get xs m.1.0 ≡ Some m.1.1) × (are_alike m.0.1 m.1.1 ≡ true)) (λ m k. (k.second, k.like)) p.matched matches)
        i (λ key. omega (arith, zip_fewer_second (λ (y : NumberedChange). y.0 == i) (row Deletion track_empty key p.ordered) (row Addition track_empty key p.ordered), in_row_once Addition key i)) (slice_get xs i) refl);
  }
