-- In an index, the paths that start with a prefix are in a row, after the lower paths.
use Rattle.std.proofs.Common.{◌≡◌, refl, sym, ap, subst, ◌∙◌, ℕ, ◌+◌, ◌-◌, ◌<◌, ◌≤◌, min, ◌⊎◌, ◌↔◌, inl, inr, Bool, true, false, List, [], ◌∷◌, length, take, drop, slice_index_or, nat_eq, All, arith}
use Rattle.std.specs.List.{starts_with, prefix_len}
use Rattle.std.specs.Ordering.{nat_cmp, ordering_then, ordering_reverse, is_lt, is_gt}
use Rattle.std.specs.Cmp.Lexicographic.{slice_cmp}
use Rattle.std.specs.declared.cmp.Ordering.{Ordering}
use Rattle.std.specs.declared.cmp.Ordering.TheVariants.{Less, Equal, Greater}
use Rattle.std.proofs.lemmas.List.{length-take, length-drop, length-map, take_all, drop-map, get_or-take, get_or-drop, get_or-map}
use Rattle.std.proofs.lemmas.List.Sums.{prefix_len-le-length, prefix_len_passes, prefix_len_stops}
use Rattle.std.proofs.lemmas.Bool.{cases_eq, cases_lt}
use Rattle.std.proofs.lemmas.Bool.Decides.{nat_tests}
use Rattle.std.proofs.lemmas.Cmp.{nat_list_cmp_total}
use Rattle.status_index.specs.declared.entry.Entry.{Entry}
use Rattle.status_index.specs.declared.entry.PathStorage.{PathStorage}
use Rattle.status_index.specs.Entries.{IndexEntry, IsIndex, index_entry, index_entries}
use Rattle.status_index.specs.Stretch.{is_under, is_below, IsFront, IsStretch}

unless_true : (b : Bool) → (b ≡ true → ⊥) → b ≡ false
unless_true true h = absurd (h refl)
unless_true false h = refl

not_above : (o p : Ordering) → ordering_then o p ≡ Less → is_gt o ≡ false
not_above Less p h = refl
not_above Equal p h = refl
not_above Greater p h = cc

-- The first bytes ascend, or they are equal and the rest isn't greater.
heads : (a b : ℕ) (o : Ordering) → is_gt (ordering_then (nat_cmp a b) o) ≡ false → (a < b) ⊎ ((a ≡ b) × (is_gt o ≡ false))
heads a b o h = grind (arith, nat_tests)

begins_more : (c a : ℕ) (p x : List ℕ) → starts_with nat_eq (a ∷ x) (c ∷ p) ≡ true → (c ≡ a) × (starts_with nat_eq x p ≡ true)
begins_more c a p x h = grind (arith, nat_tests)

begins_same : (c a : ℕ) (p x : List ℕ) → c ≡ a → starts_with nat_eq x p ≡ true → starts_with nat_eq (a ∷ x) (c ∷ p) ≡ true
begins_same c a p x e h = grind (arith, nat_tests)

pub between : (p x y z : List ℕ) → is_gt (slice_cmp nat_cmp x y) ≡ false → is_gt (slice_cmp nat_cmp y z) ≡ false → starts_with nat_eq x p ≡ true → starts_with nat_eq z p ≡ true → starts_with nat_eq y p ≡ true
between [] x y z below above first last = refl
between (c ∷ p) [] y z below above first last = cc
between (c ∷ p) (a ∷ x) [] z below above first last = cc
between (c ∷ p) (a ∷ x) (b ∷ y) [] below above first last = cc
between (c ∷ p) (a ∷ x) (b ∷ y) (e ∷ z) below above first last =
    let s = begins_more c a p x first in
    let t = begins_more c e p z last in
    elim (heads a b (slice_cmp nat_cmp x y) below) [
      | inl l ↦ absurd (elim (heads b e (slice_cmp nat_cmp y z) above) [ inl m ↦ omega arith | inr m ↦ omega (arith, m.0) ])
      | inr l ↦ elim (heads b e (slice_cmp nat_cmp y z) above) [
        | inl m ↦ absurd (omega (arith, l.0))
        | inr m ↦ begins_same c b p y (s.0 ∙ l.0) (between p x y z l.1 m.1 s.1 t.1)
      ]
    ]

begins_itself : (p : List ℕ) → starts_with nat_eq p p ≡ true
begins_itself [] = refl
begins_itself (c ∷ p) = begins_same c c p p refl (begins_itself p)

lower_heads : (a b : ℕ) (o : Ordering) → is_lt (ordering_then (nat_cmp a b) o) ≡ true → (a < b) ⊎ ((a ≡ b) × (is_lt o ≡ true))
lower_heads a b o h = grind (arith, nat_tests)

-- A path below a prefix doesn't start with it.
not_begun : (p x : List ℕ) → is_lt (slice_cmp nat_cmp x p) ≡ true → starts_with nat_eq x p ≡ true → ⊥
not_begun [] [] low begun = cc
not_begun [] (a ∷ x) low begun = cc
not_begun (c ∷ p) [] low begun = cc
not_begun (c ∷ p) (a ∷ x) low begun =
    let s = begins_more c a p x begun in
    elim (lower_heads a c (slice_cmp nat_cmp x p) low) [
      | inl l ↦ omega (arith, s.0)
      | inr l ↦ not_begun p x l.1 s.1
    ]

pub Less-from_lt : (o : Ordering) → is_lt o ≡ true → o ≡ Less
Less-from_lt Less h = refl
Less-from_lt Equal h = cc
Less-from_lt Greater h = cc

reversed : (o : Ordering) → is_lt o ≡ false → is_gt (ordering_reverse o) ≡ false
reversed Less h = cc
reversed Equal h = refl
reversed Greater h = refl

not_lower : (x p : List ℕ) → is_lt (slice_cmp nat_cmp x p) ≡ false → is_gt (slice_cmp nat_cmp p x) ≡ false
not_lower x p h = ap is_gt (nat_list_cmp_total.antisymm p x) ∙ reversed (slice_cmp nat_cmp x p) h

lower : (o : Ordering) (x y p : List ℕ) → slice_cmp nat_cmp x y ≡ o → is_gt o ≡ false → is_lt (slice_cmp nat_cmp y p) ≡ true → is_lt (slice_cmp nat_cmp x p) ≡ true
lower Less x y p e h low = ap is_lt (nat_list_cmp_total.trans x y p e (Less-from_lt (slice_cmp nat_cmp y p) low))
lower Equal x y p e h low = ap is_lt (nat_list_cmp_total.congr x y p e) ∙ low
lower Greater x y p e h low = cc

-- The paths of an index ascend.
pub ascends : (es : List IndexEntry) → IsIndex es → (i j : ℕ) (d : IndexEntry) → i < j → j < length es → is_gt (slice_cmp nat_cmp (slice_index_or es i d).path (slice_index_or es j d).path) ≡ false
ascends es h i j d l m = not_above _ _ (h.ascending i j d l m)

pub IsFront-below : (es : List IndexEntry) (p : List ℕ) → IsIndex es → IsFront (is_below p) es
IsFront-below es p h i j d l m low =
    lower (slice_cmp nat_cmp (slice_index_or es i d).path (slice_index_or es j d).path) (slice_index_or es i d).path (slice_index_or es j d).path p refl (ascends es h i j d l m) low

-- The entries that pass are exactly those before the end of the front.
module _ (test : IndexEntry → Bool) (es : List IndexEntry) (front : IsFront test es) where
  front_before : (k m : ℕ) (d : IndexEntry) → m ≤ k → k < length es → test (slice_index_or es k d) ≡ true → test (slice_index_or es m d) ≡ true
  front_before k m d le inside passes =
      elim (cases_eq m k) [
        | inl e ↦ rw e passes
        | inr apart ↦ front m k d (omega arith) inside passes
      ]

  pub front_passes : (k : ℕ) (d : IndexEntry) → k < length es → test (slice_index_or es k d) ≡ true → k < prefix_len test es
  front_passes k d inside passes =
      elim (cases_lt k (prefix_len test es)) [
        | inl l ↦ l
        | inr l ↦
            let t : test (slice_index_or es (prefix_len test es) d) ≡ true = front_before k (prefix_len test es) d l inside passes in
            let f : test (slice_index_or es (prefix_len test es) d) ≡ false = prefix_len_stops test es d (omega arith) in
            cc
      ]

  pub front_fails : (k : ℕ) (d : IndexEntry) → prefix_len test es ≤ k → k < length es → test (slice_index_or es k d) ≡ false
  front_fails k d le inside = unless_true _ (λ passes. omega (arith, front_passes k d inside passes))

  pub front_answer : (k : ℕ) (x : IndexEntry) (answer : Bool) → k < length es → slice_index_or es k x ≡ x → answer ≡ test x → (answer ≡ true) ↔ (k < prefix_len test es)
  front_answer k x answer inside read is =
      (λ t. front_passes k x inside (rw read (sym is ∙ t)), λ l. is ∙ ap test (sym read) ∙ prefix_len_passes test es k x l)

  pub front_outside : (k : ℕ) → length es ≤ k → (false ≡ true) ↔ (k < prefix_len test es)
  front_outside k outside = (λ t. cc, λ l. absurd (omega (arith, prefix_len-le-length test es)))

pub cut_inside : (test : IndexEntry → Bool) (es : List IndexEntry) (n : ℕ) → length es ≡ n → min (prefix_len test es) n ≡ prefix_len test es
cut_inside test es n all = omega (arith, prefix_len-le-length test es)

-- The same for stored entries.
module _ (test : IndexEntry → Bool) (b : PathStorage) (entries : List Entry) (front : IsFront test (index_entries b entries)) where
  pub stored_answer : (k : ℕ) (e : Entry) (answer : Bool) → k < length entries → e ≡ slice_index_or entries k e → answer ≡ test (index_entry b e) → (answer ≡ true) ↔ (k < prefix_len test (index_entries b entries))
  stored_answer k e answer inside same is =
      let l : k < length (index_entries b entries) = omega (arith, length-map entries (index_entry b)) in
      let read : slice_index_or (index_entries b entries) k (index_entry b e) ≡ index_entry b e = get_or-map (index_entry b) entries k e (index_entry b e) inside ∙ ap (index_entry b) (sym same) in
      front_answer test (index_entries b entries) front k (index_entry b e) answer l read is

  pub stored_outside : (k : ℕ) → length entries ≤ k → (false ≡ true) ↔ (k < prefix_len test (index_entries b entries))
  stored_outside k outside =
      front_outside test (index_entries b entries) front k (omega (arith, length-map entries (index_entry b)))

-- After the paths below the prefix, those that start with it come first.
module _ (es : List IndexEntry) (p : List ℕ) (h : IsIndex es) where
  behind : (k : ℕ) (d : IndexEntry) → prefix_len (is_below p) es ≤ k → k < length es → is_below p (slice_index_or es k d) ≡ false
  behind k d le inside = front_fails (is_below p) es (IsFront-below es p h) k d le inside

  front_under : (a : ℕ) → prefix_len (is_below p) es ≤ a → IsFront (is_under p) (drop a es)
  front_under a le i j d l m begun =
      let n : a + j < length es = omega (arith, length-drop a es) in
      let o : a + i < length es = omega arith in
      let last : is_under p (slice_index_or es (a + j) d) ≡ true = rw (get_or-drop a es j d) at begun in
      let low = not_lower (slice_index_or es (a + i) d).path p (behind (a + i) d (omega arith) o) in
      let up = ascends es h (a + i) (a + j) d (omega arith) n in
      rw (get_or-drop a es i d) (between p p (slice_index_or es (a + i) d).path (slice_index_or es (a + j) d).path low up (begins_itself p) last)

  pub IsFront-under : (a : ℕ) → a ≡ prefix_len (is_below p) es → IsFront (is_under p) (drop a es)
  IsFront-under a e = front_under a (omega (arith, e))

  pub IsStretch-from_fronts : (a n : ℕ) → a ≡ prefix_len (is_below p) es → n ≡ prefix_len (is_under p) (drop a es) → IsStretch es p a (a + n)
  IsStretch-from_fronts a n start count =
      let front = IsFront-under a start in
      let long : length (drop a es) ≡ length es - a = length-drop a es in
      let few : n ≤ length (drop a es) = omega (arith, prefix_len-le-length (is_under p) (drop a es)) in
      let first : a ≤ length es = omega (arith, prefix_len-le-length (is_below p) es) in
      record {
        order = omega arith;
        inside = omega arith;
        before = λ k d l.
            let m : k < a = omega (arith, length-take a es) in
            let low : is_below p (slice_index_or es k d) ≡ true = prefix_len_passes (is_below p) es k d (omega arith) in
            rw (get_or-take a es k d m) (unless_true _ (not_begun p (slice_index_or es k d).path low));
        within = λ k d l.
            let m : k < a + n - a = omega (arith, length-take (a + n - a) (drop a es)) in
            rw (get_or-take (a + n - a) (drop a es) k d m) (prefix_len_passes (is_under p) (drop a es) k d (omega arith));
        after = λ k d l.
            let m : n + k < length (drop a es) = omega (arith, length-drop (a + n) es) in
            let far : is_under p (slice_index_or (drop a es) (n + k) d) ≡ false = front_fails (is_under p) (drop a es) front (n + k) d (omega arith) m in
            let place : a + (n + k) ≡ a + n + k = omega arith in
            rw (get_or-drop (a + n) es k d, ← place, ← get_or-drop a es (n + k) d) far;
      }

-- The same for the stored entries from a position on, as a slice has them.
rest_all : (entries : List Entry) (a : ℕ) → take (length entries - a) (drop a entries) ≡ drop a entries
rest_all entries a = take_all (length entries - a) (drop a entries) (omega (arith, length-drop a entries))

shown_rest : (b : PathStorage) (entries : List Entry) (a : ℕ) → index_entries b (take (length entries - a) (drop a entries)) ≡ drop a (index_entries b entries)
shown_rest b entries a = ap (index_entries b) (rest_all entries a) ∙ sym (drop-map (index_entry b) a entries)

pub stored_under : (b : PathStorage) (entries : List Entry) (p : List ℕ) (a : ℕ) → IsIndex (index_entries b entries) → a ≡ prefix_len (is_below p) (index_entries b entries) → IsFront (is_under p) (index_entries b (take (length entries - a) (drop a entries)))
stored_under b entries p a h e =
    let family : List IndexEntry → Type 0 = λ es. IsFront (is_under p) es in
    subst family (sym (shown_rest b entries a)) (IsFront-under (index_entries b entries) p h a e)

pub stored_count : (b : PathStorage) (entries : List Entry) (p : List ℕ) (a n : ℕ) → n ≡ prefix_len (is_under p) (index_entries b (take (length entries - a) (drop a entries))) → n ≡ prefix_len (is_under p) (drop a (index_entries b entries))
stored_count b entries p a n e = e ∙ ap (prefix_len (is_under p)) (shown_rest b entries a)

-- If the range is empty, no path starts with the prefix.
pub none_under : (es : List IndexEntry) (p : List ℕ) (a b : ℕ) → b ≤ a → IsStretch es p a b → All (λ e. is_under p e ≡ false) es
none_under es p a b le h k d l =
    elim (cases_lt k a) [
      | inl m ↦
          let n : k < length (take a es) = omega (arith, length-take a es) in
          rw (get_or-take a es k d m) at (h.before k d n)
      | inr m ↦
          let n : k - b < length (drop b es) = omega (arith, length-drop b es) in
          let place : b + (k - b) ≡ k = omega arith in
          rw (get_or-drop b es (k - b) d, place) at (h.after (k - b) d n)
    ]
