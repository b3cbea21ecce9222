-- The reports of a sorted list are sorted.
use Rattle.std.proofs.Common.{◌≡◌, refl, sym, ap, subst, ◌∙◌, ℕ, zero, suc, ◌+◌, false, List, [], ◌∷◌, ◌++◌, length, map, flat_map, slice_index_or, Option, Some, None, All, arith}
use Rattle.std.specs.Cmp.{IsTotalOrder}
use Rattle.std.specs.List.{AllPairs, enumerate_from}
use Rattle.std.specs.List.Sorted.{IsSorted}
use Rattle.std.specs.Ordering.{is_lt, nat_cmp, ordering_then}
use Rattle.std.specs.Cmp.Lexicographic.{slice_cmp}
use Rattle.std.specs.declared.cmp.Ordering.{Ordering}
use Rattle.std.proofs.lemmas.Cmp.{nat_cmp_total, nat_list_cmp_total, on_total, then_total}
use Rattle.std.proofs.lemmas.List.{get_or-map, length-map}
use Rattle.std.proofs.lemmas.List.Elements.{All-cons, All-head, All-nil, All-tail}
use Rattle.std.proofs.lemmas.List.Kept.{AllPairs-cons}
use Rattle.std.proofs.lemmas.List.Sorted.{ranks_by, sorted_far}
use Rattle.std.proofs.lemmas.Simd.{map-map}
use Rattle.status_index.specs.declared.id.HashKind.{HashKind}
use Rattle.status_rewrites.specs.declared.rewrites.Rewritten.{Rewritten}
use Rattle.status_rewrites.specs.declared.rewrites.Rewritten.TheVariants.{Alone, Rewrite}
use Rattle.status_rewrites.specs.AfterRewrites.{after_rewrites, pair_to, pairs_of, entries_here, item_left}
use Rattle.status_rewrites.specs.Parts.{renames_from}
use Rattle.status_rewrites.specs.declared.tracker.Pair.{Pair}
use Rattle.status_rewrites.proofs.Lists.{IsSortedBy-map}
use Rattle.status_joined.specs.Feeding.{AreReported}
use Rattle.status_joined.specs.NodeIds.{forget}
use Rattle.status_joined.specs.Items.{Item, Reported, IsReported, tracked, walked, path_of, side_of}
use Rattle.status_joined.specs.Lists.{list_cmp}
use Rattle.status_joined.specs.Summaries.{destination_path, reported_cmp, reported_side}

module _ {I K : Type 0} (key : I → K) where
  -- The key of the item at whose position an entry is.
  abbrev pub place_key : Rewritten I → K
  place_key (Alone x) = key x
  place_key (Rewrite source x copy) = key x

  abbrev standing_at : List (Pair × I) → ℕ × I → List (Rewritten I)
  standing_at ms e = entries_here (item_left (renames_from (pairs_of ms) e.0) e.1) (pair_to ms e.0)

  all_more : (P : K → Type 0) (n : ℕ) (x : I) (m : Option (Pair × I)) (rest : List (Rewritten I)) → P (key x) → All P (map place_key rest) → All P (map place_key (entries_here (item_left n x) m ++ rest))
  all_more P (suc n) x m rest h others = others
  all_more P zero x None rest h others = All-cons P (key x) (map place_key rest) h others
  all_more P zero x (Some m) rest h others = All-cons P (key x) (map place_key rest) h others

  all_after : (P : K → Type 0) (ms : List (Pair × I)) (n : ℕ) (xs : List I) → All P (map key xs) → All P (map place_key (flat_map (standing_at ms) (enumerate_from n xs)))
  all_after P ms n [] h = All-nil P
  all_after P ms n (x ∷ xs) h =
      all_more P (renames_from (pairs_of ms) n) x (pair_to ms n) (flat_map (standing_at ms) (enumerate_from (n + 1) xs))
      (All-head P (key x) (map key xs) h) (all_after P ms (n + 1) xs (All-tail P (key x) (map key xs) h))

  module _ (R : K → K → Type 0) where
    pairs_more : (n : ℕ) (x : I) (m : Option (Pair × I)) (rest : List (Rewritten I)) → All (R (key x)) (map place_key rest) → AllPairs R (map place_key rest) → AllPairs R (map place_key (entries_here (item_left n x) m ++ rest))
    pairs_more (suc n) x m rest h others = others
    pairs_more zero x None rest h others = AllPairs-cons R (key x) (map place_key rest) h others
    pairs_more zero x (Some m) rest h others = AllPairs-cons R (key x) (map place_key rest) h others

    -- A relation of each key to each later one still holds after rewrites.
    pub pairs_after : (ms : List (Pair × I)) (n : ℕ) (xs : List I) → AllPairs R (map key xs) → AllPairs R (map place_key (flat_map (standing_at ms) (enumerate_from n xs)))
    pairs_after ms n [] h = h
    pairs_after ms n (x ∷ xs) h =
        let first : All (R (key x)) (map key xs) = λ k d within. h zero (suc k) d (omega arith) (omega arith) in
        let others : AllPairs R (map key xs) = λ i j d below within. h (suc i) (suc j) d (omega arith) (omega arith) in
        pairs_more (renames_from (pairs_of ms) n) x (pair_to ms n) (flat_map (standing_at ms) (enumerate_from (n + 1) xs))
        (all_after (R (key x)) ms (n + 1) xs first) (pairs_after ms (n + 1) xs others)

module _ {K : Type 0} (cmp : K → K → Ordering) where
  abbrev pub NotAfter : K → K → Type 0
  NotAfter a b = is_lt (cmp b a) ≡ false

  -- From a list that is sorted by a key to its keys, and back.
  pub pairs_from_sorted : IsTotalOrder cmp → {X : Type 0} (key : X → K) (xs : List X) → IsSorted (λ x y. cmp (key x) (key y)) xs → AllPairs NotAfter (map key xs)
  pairs_from_sorted total key xs up i j d below within =
      sorted_far (λ a b. is_lt (cmp a b)) (ranks_by total (λ k. k)) (map key xs) (IsSortedBy-map (λ a b. is_lt (cmp a b)) key xs up) i j d (omega arith) within

  pub sorted_from_pairs : {X : Type 0} (key : X → K) (xs : List X) → AllPairs NotAfter (map key xs) → IsSorted (λ x y. cmp (key x) (key y)) xs
  sorted_from_pairs key xs h k d from within =
      let long : length (map key xs) ≡ length xs = length-map xs key in
      subst (λ a. NotAfter a (key (slice_index_or xs (k + 1) d))) (get_or-map key xs k d (key d) (omega arith))
      (subst (λ b. NotAfter (slice_index_or (map key xs) k (key d)) b) (get_or-map key xs (k + 1) d (key d) within) (h k (k + 1) (key d) (omega arith) (omega arith)))

-- By a path, and then by a side.
abbrev place_cmp : List ℕ × ℕ → List ℕ × ℕ → Ordering
place_cmp a b = ordering_then (slice_cmp nat_cmp a.0 b.0) (nat_cmp a.1 b.1)

place_cmp_total : IsTotalOrder place_cmp
place_cmp_total = then_total (on_total (λ (p : List ℕ × ℕ). p.0) nat_list_cmp_total) (on_total (λ (p : List ℕ × ℕ). p.1) nat_cmp_total)

module _ {T U : Type 0} where
  abbrev item_place : Item T U → List ℕ × ℕ
  item_place x = (path_of x, side_of x)

  abbrev reported_place : Reported T U → List ℕ × ℕ
  reported_place t = (destination_path t, reported_side t)

  -- Ids don't matter for the order.
  same_forgotten : (kind : HashKind) (x : Item T U) → item_place (forget kind x) ≡ item_place x
  same_forgotten kind (tracked v) = refl
  same_forgotten kind (walked w id) = refl

  same_places_forgotten : (kind : HashKind) (xs : List (Item T U)) → map item_place (map (forget kind) xs) ≡ map item_place xs
  same_places_forgotten kind [] = refl
  same_places_forgotten kind (x ∷ xs) =
      ap (λ p. p ∷ map item_place (map (forget kind) xs)) (same_forgotten kind x) ∙ ap (λ ps. item_place x ∷ ps) (same_places_forgotten kind xs)

  same_places : (kind : HashKind) (xs ys : List (Item T U)) → map (forget kind) ys ≡ map (forget kind) xs → map item_place xs ≡ map item_place ys
  same_places kind xs ys same = sym (same_places_forgotten kind xs) ∙ ap (map item_place) (sym same) ∙ same_places_forgotten kind ys

  -- An entry's report has the path and side of the item at whose position the entry is.
  reported_in_place : (entry : Rewritten (Item T U)) (t : Reported T U) → IsReported entry t → place_key item_place entry ≡ reported_place t
  reported_in_place (Alone (tracked v)) t h = ap reported_place (sym h)
  reported_in_place (Alone (walked w id)) t h = ap reported_place (sym h)
  reported_in_place (Rewrite source (walked w id) copy) t h = ap reported_place (sym h)
  reported_in_place (Rewrite source (tracked v) copy) t h = absurd h

  reported_in_places : (entries : List (Rewritten (Item T U))) (ts : List (Reported T U)) → AreReported entries ts → map (place_key item_place) entries ≡ map reported_place ts
  reported_in_places [] [] h = refl
  reported_in_places [] (t ∷ ts) h = absurd h
  reported_in_places (entry ∷ entries) [] h = absurd h
  reported_in_places (entry ∷ entries) (t ∷ ts) h =
      ap (λ p. p ∷ map (place_key item_place) entries) (reported_in_place entry t h.0) ∙ ap (λ ps. reported_place t ∷ ps) (reported_in_places entries ts h.1)

  -- For items alone.
  pub alone_in_order : (list : List (Item T U)) (ts : List (Reported T U)) → IsSorted list_cmp list → AreReported (map Alone list) ts → IsSorted reported_cmp ts
  alone_in_order list ts up reported =
      let same : map item_place list ≡ map reported_place ts = sym (map-map (place_key item_place) Alone list) ∙ reported_in_places (map Alone list) ts reported in
      sorted_from_pairs place_cmp reported_place ts
      (subst (AllPairs (NotAfter place_cmp)) same (pairs_from_sorted place_cmp place_cmp_total item_place list up))

  -- After rewrites.
  pub rewritten_in_order : (kind : HashKind) (list items : List (Item T U)) (ms : List (Pair × Item T U)) (entries : List (Rewritten (Item T U))) (ts : List (Reported T U)) → IsSorted list_cmp list → map (forget kind) items ≡ map (forget kind) list → entries ≡ after_rewrites items ms → AreReported entries ts → IsSorted reported_cmp ts
  rewritten_in_order kind list items ms entries ts up same are reported =
      let sorted : AllPairs (NotAfter place_cmp) (map item_place items) =
      subst (AllPairs (NotAfter place_cmp)) (same_places kind list items same) (pairs_from_sorted place_cmp place_cmp_total item_place list up) in
      let after : map (place_key item_place) (after_rewrites items ms) ≡ map reported_place ts =
      ap (map (place_key item_place)) (sym are) ∙ reported_in_places entries ts reported in
      sorted_from_pairs place_cmp reported_place ts
      (subst (AllPairs (NotAfter place_cmp)) after (pairs_after item_place (NotAfter place_cmp) ms 0 items sorted))
