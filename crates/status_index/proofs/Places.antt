-- The entries of an index below a path, at it and above it.
use lib.Seq.{drop-drop}
use Rattle.std.proofs.Common.{◌≡◌, refl, sym, ap, ◌∙◌, ℕ, ◌+◌, ◌-◌, ◌<◌, ◌≤◌, inl, inr, Bool, true, false, not, List, [], ◌∷◌, ◌++◌, length, take, drop, slice_index_or, Option, All, arith}
use Rattle.std.specs.List.{Any, filter, prefix_len}
use Rattle.std.specs.Option.{option_to_list}
use Rattle.std.specs.Ordering.{nat_cmp, ordering_then, ordering_reverse, is_eq, is_lt, is_le, is_gt}
use Rattle.std.specs.Cmp.Lexicographic.{slice_cmp}
use Rattle.std.specs.declared.cmp.Ordering.{Ordering}
use Rattle.std.specs.declared.cmp.Ordering.TheVariants.{Less, Equal, Greater}
use Rattle.std.proofs.lemmas.Bool.{cases_lt}
use Rattle.std.proofs.lemmas.Bool.Decides.{nat_tests}
use Rattle.std.proofs.lemmas.Cmp.{nat_list_cmp_total, tied_itself, upto}
use Rattle.std.proofs.lemmas.List.{append-nil, length-take, length-drop, take-append-drop, get_or-take, get_or-drop}
use Rattle.std.proofs.lemmas.List.Elements.{All-head, All-tail, filter-append}
use Rattle.std.proofs.lemmas.List.Sums.{prefix_len-le-length, prefix_len_passes, prefix_len_stops}
use Rattle.status_index.specs.Entries.{IndexEntry, IsIndex}
use Rattle.status_index.specs.Stretch.{is_at, is_below, is_up_to, part_of, IsFront}
use Rattle.status_index.specs.Staging.{is_above, with_entry, place_of}
use Rattle.status_index.proofs.Refusals.{listed_in}
use Rattle.status_index.proofs.Stretches.{IsFront-below, ascends, front_fails}

le_or_reversed : (o : Ordering) → is_lt (ordering_reverse o) ≡ not (is_le o)
le_or_reversed Less = refl
le_or_reversed Equal = refl
le_or_reversed Greater = refl

gt_from_le : (o : Ordering) → is_le o ≡ true → is_gt o ≡ false
gt_from_le Less h = refl
gt_from_le Equal h = refl
gt_from_le Greater h = cc

le_from_gt : (o : Ordering) → is_gt o ≡ false → is_le o ≡ true
le_from_gt Less h = refl
le_from_gt Equal h = refl
le_from_gt Greater h = cc

le_from_lt : (o : Ordering) → is_lt o ≡ true → is_le o ≡ true
le_from_lt Less h = refl
le_from_lt Equal h = cc
le_from_lt Greater h = cc

Equal-between : (o : Ordering) → is_lt o ≡ false → is_le o ≡ true → o ≡ Equal
Equal-between Less h k = cc
Equal-between Equal h k = refl
Equal-between Greater h k = cc

apart_from_lt : (o : Ordering) → is_lt o ≡ true → is_eq o ≡ false
apart_from_lt Less h = refl
apart_from_lt Equal h = cc
apart_from_lt Greater h = refl

apart_from_gt : (o : Ordering) → is_le o ≡ false → is_eq o ≡ false
apart_from_gt Less h = cc
apart_from_gt Equal h = cc
apart_from_gt Greater h = refl

-- An entry that isn't up to a path is above it.
above_or_not : (p : List ℕ) (e : IndexEntry) → is_above p e ≡ not (is_up_to p e)
above_or_not p e =
    ap is_lt (nat_list_cmp_total.antisymm p e.path) ∙ le_or_reversed (slice_cmp nat_cmp e.path p)

equal_heads : (a b : ℕ) (o : Ordering) → ordering_then (nat_cmp a b) o ≡ Equal → (a ≡ b) × (o ≡ Equal)
equal_heads a b o h = grind (arith, nat_tests)

same_path : (x p : List ℕ) → slice_cmp nat_cmp x p ≡ Equal → x ≡ p
same_path [] [] h = refl
same_path [] (b ∷ p) h = cc
same_path (a ∷ x) [] h = cc
same_path (a ∷ x) (b ∷ p) h =
    let s = equal_heads a b (slice_cmp nat_cmp x p) h in
    rw (s.0, same_path x p s.1)

pub IsFront-up_to : (es : List IndexEntry) (p : List ℕ) → IsIndex es → IsFront (is_up_to p) es
IsFront-up_to es p h i j d l m low =
    le_from_gt _ (upto nat_list_cmp_total (slice_index_or es i d).path (slice_index_or es j d).path p (ascends es h i j d l m) (gt_from_le _ low))

-- A filter keeps all entries if all pass, and none if none passes.
filter_all : (test : IndexEntry → Bool) (es : List IndexEntry) → All (λ e. test e ≡ true) es → filter test es ≡ es
filter_all test [] h = refl
filter_all test (e ∷ es) h =
    let first = All-head (λ (x : IndexEntry). test x ≡ true) e es h in
    let rest = filter_all test es (All-tail (λ (x : IndexEntry). test x ≡ true) e es h) in
    rw (first, rest)

filter_none : (test : IndexEntry → Bool) (es : List IndexEntry) → All (λ e. test e ≡ false) es → filter test es ≡ []
filter_none test [] h = refl
filter_none test (e ∷ es) h =
    let first = All-head (λ (x : IndexEntry). test x ≡ false) e es h in
    let rest = filter_none test es (All-tail (λ (x : IndexEntry). test x ≡ false) e es h) in
    rw (first, rest)

-- If the entries that pass come first, a filter keeps exactly the front, and the others are the rest.
module _ (test : IndexEntry → Bool) (es : List IndexEntry) (front : IsFront test es) where
  passes_in_front : All (λ e. test e ≡ true) (take (prefix_len test es) es)
  passes_in_front k d l =
      let m : k < prefix_len test es = omega (arith, length-take (prefix_len test es) es) in
      rw (get_or-take (prefix_len test es) es k d m) (prefix_len_passes test es k d m)

  fails_behind : All (λ e. test e ≡ false) (drop (prefix_len test es) es)
  fails_behind k d l =
      let m : prefix_len test es + k < length es = omega (arith, length-drop (prefix_len test es) es) in
      rw (get_or-drop (prefix_len test es) es k d) (front_fails test es front (prefix_len test es + k) d (omega arith) m)

  pub filter-front : filter test es ≡ take (prefix_len test es) es
  filter-front =
      let n = prefix_len test es in
      ap (filter test) (sym (take-append-drop n es)) ∙ filter-append test (take n es) (drop n es)
      ∙ rw (filter_all test (take n es) passes_in_front, filter_none test (drop n es) fails_behind) (append-nil (take n es))

  pub filter-behind : (other : IndexEntry → Bool) → ((e : IndexEntry) → other e ≡ not (test e)) → filter other es ≡ drop (prefix_len test es) es
  filter-behind other is =
      let n = prefix_len test es in
      let before : All (λ e. other e ≡ false) (take n es) = λ k d l. is (slice_index_or (take n es) k d) ∙ ap not (passes_in_front k d l) in
      let after : All (λ e. other e ≡ true) (drop n es) = λ k d l. is (slice_index_or (drop n es) k d) ∙ ap not (fails_behind k d l) in
      ap (filter other) (sym (take-append-drop n es)) ∙ filter-append other (take n es) (drop n es)
      ∙ rw (filter_none other (take n es) before, filter_all other (drop n es) after)

-- The positions of a path's entries in an index.
module _ (es : List IndexEntry) (p : List ℕ) (h : IsIndex es) where
  pub below_is : filter (is_below p) es ≡ take (prefix_len (is_below p) es) es
  below_is = filter-front (is_below p) es (IsFront-below es p h)

  pub above_is : filter (is_above p) es ≡ drop (prefix_len (is_up_to p) es) es
  above_is = filter-behind (is_up_to p) es (IsFront-up_to es p h) (is_above p) (above_or_not p)

  pub place_is : prefix_len (is_below p) es ≡ place_of es p
  place_is = omega (arith, ap length below_is, length-take (prefix_len (is_below p) es) es, prefix_len-le-length (is_below p) es)

  pub places_ordered : prefix_len (is_below p) es ≤ prefix_len (is_up_to p) es
  places_ordered =
      elim (cases_lt (prefix_len (is_up_to p) es) (prefix_len (is_below p) es)) [
        | inl l ↦
            let b = prefix_len (is_up_to p) es in
            let inside : b < length es = omega (arith, prefix_len-le-length (is_below p) es) in
            let d = listed_in es b inside in
            let low : is_below p (slice_index_or es b d) ≡ true = prefix_len_passes (is_below p) es b d l in
            let up_to : is_up_to p (slice_index_or es b d) ≡ true = le_from_lt _ low in
            let above : is_up_to p (slice_index_or es b d) ≡ false = prefix_len_stops (is_up_to p) es d inside in
            cc
        | inr l ↦ l
      ]

  -- An index with another entry at a path: the entries before its positions, the new one, and those after them.
  pub with_entry-parts : (new : Option IndexEntry) → with_entry es p new ≡ take (prefix_len (is_below p) es) es ++ option_to_list new ++ drop (prefix_len (is_up_to p) es) es
  with_entry-parts new = rw (below_is, above_is)

  -- The entries between the positions have the path.
  pub path_between : (k : ℕ) (d : IndexEntry) → prefix_len (is_below p) es ≤ k → k < prefix_len (is_up_to p) es → (slice_index_or es k d).path ≡ p
  path_between k d from to =
      let inside : k < length es = omega (arith, prefix_len-le-length (is_up_to p) es) in
      let high = front_fails (is_below p) es (IsFront-below es p h) k d from inside in
      let low = prefix_len_passes (is_up_to p) es k d to in
      same_path _ _ (Equal-between _ high low)

  none_before : All (λ e. is_at p e ≡ false) (take (prefix_len (is_below p) es) es)
  none_before k d l = apart_from_lt _ (passes_in_front (is_below p) es (IsFront-below es p h) k d l)

  none_behind : All (λ e. is_at p e ≡ false) (drop (prefix_len (is_up_to p) es) es)
  none_behind k d l = apart_from_gt _ (fails_behind (is_up_to p) es (IsFront-up_to es p h) k d l)

  all_between : All (λ e. is_at p e ≡ true) (part_of es (prefix_len (is_below p) es) (prefix_len (is_up_to p) es))
  all_between k d l =
      let a = prefix_len (is_below p) es in
      let b = prefix_len (is_up_to p) es in
      let inside : k < b - a = omega (arith, length-take (b - a) (drop a es)) in
      let place : a + k < b = omega arith in
      let has : (slice_index_or es (a + k) d).path ≡ p = path_between (a + k) d (omega arith) place in
      rw (get_or-take (b - a) (drop a es) k d inside, get_or-drop a es k d)
      (ap (λ q. is_eq (slice_cmp nat_cmp q p)) has ∙ ap is_eq (tied_itself nat_list_cmp_total p))

  behind_is : drop (prefix_len (is_up_to p) es - prefix_len (is_below p) es) (drop (prefix_len (is_below p) es) es) ≡ drop (prefix_len (is_up_to p) es) es
  behind_is =
      let a = prefix_len (is_below p) es in
      let b = prefix_len (is_up_to p) es in
      let ordered = places_ordered in
      let sum : a + (b - a) ≡ b = omega arith in
      drop-drop (b - a) a es ∙ ap (λ n. drop n es) sum

  -- The path's entries are those between its positions.
  pub filter-at : filter (is_at p) es ≡ part_of es (prefix_len (is_below p) es) (prefix_len (is_up_to p) es)
  filter-at =
      let a = prefix_len (is_below p) es in
      let b = prefix_len (is_up_to p) es in
      let between = part_of es a b in
      let behind = drop b es in
      let parts : drop a es ≡ between ++ behind = sym (take-append-drop (b - a) (drop a es)) ∙ ap (λ l. between ++ l) behind_is in
      let rest : filter (is_at p) (drop a es) ≡ between =
      ap (filter (is_at p)) parts ∙ filter-append (is_at p) between behind
      ∙ rw (filter_all (is_at p) between all_between, filter_none (is_at p) behind none_behind) (append-nil between) in
      ap (filter (is_at p)) (sym (take-append-drop a es)) ∙ filter-append (is_at p) (take a es) (drop a es)
      ∙ rw (filter_none (is_at p) (take a es) none_before) rest

-- If both positions are equal, no entry has the path.
pub none_at : (es : List IndexEntry) (p : List ℕ) → IsIndex es → prefix_len (is_below p) es ≡ prefix_len (is_up_to p) es → Any (λ e. e.path ≡ p) es → ⊥
none_at es p h none (k, x, inside, read, is) =
    let same : slice_cmp nat_cmp x.path p ≡ Equal = ap (λ q. slice_cmp nat_cmp q p) is ∙ tied_itself nat_list_cmp_total p in
    elim (cases_lt k (prefix_len (is_below p) es)) [
      | inl l ↦
          let low = rw read at (prefix_len_passes (is_below p) es k x l) in
          cc (ap is_lt same)
      | inr l ↦
          let high = rw read at (front_fails (is_up_to p) es (IsFront-up_to es p h) k x (omega arith) inside) in
          cc (ap is_le same)
    ]
