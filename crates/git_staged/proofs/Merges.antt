-- Two sorted lists of entries, gone over together: the first entry at a path is found in one walk.
use Rattle.std.proofs.Common.{◌≡◌, refl, sym, ap, subst, ◌∙◌, ℕ, zero, suc, ◌+◌, ◌-◌, ◌<◌, ◌≤◌, inl, inr, Bool, true, false, List, [], ◌∷◌, length, take, drop, slice_index_or, arith, drop-cons}
use Rattle.std.specs.List.{filter, prefix_len}
use Rattle.std.specs.Ordering.{nat_cmp, is_lt, is_le, is_gt}
use Rattle.std.specs.Cmp.Lexicographic.{slice_cmp}
use Rattle.std.specs.declared.cmp.Ordering.{Ordering}
use Rattle.std.specs.declared.cmp.Ordering.TheVariants.{Less, Equal, Greater}
use Rattle.std.proofs.lemmas.Bool.{cases_lt}
use Rattle.std.proofs.lemmas.Cmp.{nat_list_cmp_total, alike_right}
use Rattle.std.proofs.lemmas.List.{length-map, get_or-map}
use Rattle.std.proofs.lemmas.List.Sums.{prefix_len-le-length, prefix_len_passes, prefix_len_stops}
use Rattle.status_index.specs.declared.entry.Entry.{Entry}
use Rattle.status_index.specs.declared.entry.PathStorage.{PathStorage}
use Rattle.status_index.specs.Entries.{IndexEntry, IsIndex, index_entry, index_entries, path_in}
use Rattle.status_index.specs.Stretch.{is_at, is_below, is_up_to}
use Rattle.status_index.proofs.Places.{filter-at, places_ordered}
use Rattle.status_index.proofs.Stretches.{Less-from_lt, ascends}
use Rattle.git_staged.specs.First.{IsFirstOf}

module _ (test : IndexEntry → Bool) (es : List IndexEntry) (n : ℕ) (d : IndexEntry) (le : n ≤ prefix_len test es) where
  -- One more entry passes.
  pub front_more : n < length es → test (slice_index_or es n d) ≡ true → n + 1 ≤ prefix_len test es
  front_more inside passes =
      elim (cases_lt n (prefix_len test es)) [
        | inl l ↦ omega arith
        | inr l ↦
            let same : prefix_len test es ≡ n = omega arith in
            let stops : test (slice_index_or es (prefix_len test es) d) ≡ false = prefix_len_stops test es d (omega arith) in
            let fails : test (slice_index_or es n d) ≡ false = subst (λ (k : ℕ). test (slice_index_or es k d) ≡ false) same stops in
            cc
      ]

  -- The front ends at the first entry that fails.
  pub front_stops : test (slice_index_or es n d) ≡ false → n ≡ prefix_len test es
  front_stops fails =
      elim (cases_lt n (prefix_len test es)) [
        | inl l ↦ let passes : test (slice_index_or es n d) ≡ true = prefix_len_passes test es n d l in cc
        | inr l ↦ omega arith
      ]

-- The front is the whole list if none fails.
pub front_ends : (test : IndexEntry → Bool) (es : List IndexEntry) (n : ℕ) → n ≤ prefix_len test es → length es ≤ n → n ≡ prefix_len test es
front_ends test es n le out = omega (arith, prefix_len-le-length test es)

-- A walk over entries is at this one, and its path compares so with another.
pub record IsReached (es : List IndexEntry) (n : ℕ) (path : List ℕ) (order : Ordering) (e : IndexEntry) : Type 0 where
  pub inside : n < length es
  pub read : slice_index_or es n e ≡ e
  pub compares : slice_cmp nat_cmp e.path path ≡ order

-- The same, as the code reads a stored entry.
pub IsReached-from_stored : (b given : PathStorage) (entries stored : List Entry) (n : ℕ) (d : Entry) (found x y path : List ℕ) (o order : Ordering) → n < length entries → entries ≡ stored → given ≡ b → found ≡ path_in given (slice_index_or entries n d) → x ≡ found → y ≡ path → o ≡ slice_cmp nat_cmp x y → o ≡ order
    → IsReached (index_entries b stored) n path order (index_entry b (slice_index_or entries n d))
IsReached-from_stored b given entries stored n d found x y path o order inside all backed named named_x named_y compared is =
    let e : Entry = slice_index_or entries n d in
    let inside_stored : n < length stored = subst (λ (l : List Entry). n < length l) all inside in
    let path_is : x ≡ path_in b e = named_x ∙ (named ∙ ap (λ (s : PathStorage). path_in s e) backed) in
    record {
      inside = omega (arith, length-map stored (index_entry b));
      read = get_or-map (index_entry b) stored n d (index_entry b e) inside_stored ∙ ap (λ (l : List Entry). index_entry b (slice_index_or l n d)) (sym all);
      compares = ap (λ (l : List ℕ). slice_cmp nat_cmp l path) (sym path_is) ∙ (ap (slice_cmp nat_cmp x) (sym named_y) ∙ (sym compared ∙ is));
    }

module _ (es : List IndexEntry) (n : ℕ) (p : List ℕ) (order : Ordering) (e : IndexEntry) (r : IsReached es n p order e) where
  lower_is : is_below p (slice_index_or es n e) ≡ is_lt order
  lower_is = ap (is_below p) r.read ∙ ap is_lt r.compares

  up_to_is : is_up_to p (slice_index_or es n e) ≡ is_le order
  up_to_is = ap (is_up_to p) r.read ∙ ap is_le r.compares

  -- The walk goes on past a lower path.
  pub reached_more : n ≤ prefix_len (is_below p) es → order ≡ Less → n + 1 ≤ prefix_len (is_below p) es
  reached_more le is = front_more (is_below p) es n e le r.inside (lower_is ∙ ap is_lt is)

  -- It ends at a path that isn't.
  pub reached_end : n ≤ prefix_len (is_below p) es → is_lt order ≡ false → n ≡ prefix_len (is_below p) es
  reached_end le is = front_stops (is_below p) es n e le (lower_is ∙ is)

first_and_rest : (e : IndexEntry) (es rest : List IndexEntry) → es ≡ e ∷ rest → IsFirstOf e es
first_and_rest e es rest h = h ∙ ap (λ (l : List IndexEntry). e ∷ l) (sym (ap (drop 1) h))

take_some : (k : ℕ) (e : IndexEntry) (rest : List IndexEntry) → 0 < k → take k (e ∷ rest) ≡ e ∷ take (k - 1) rest
take_some zero e rest some = absurd (omega arith)
take_some (suc k) e rest some =
    let same : k ≡ suc k - 1 = omega arith in
    ap (λ (m : ℕ). e ∷ take m rest) same

-- At its end a walk has the first entry at the path, or there is none.
module _ (es : List IndexEntry) (p : List ℕ) (h : IsIndex es) (n : ℕ) (ends : n ≡ prefix_len (is_below p) es) where
  ordered : n ≤ prefix_len (is_up_to p) es
  ordered = omega (arith, places_ordered es p h)

  at_is : filter (is_at p) es ≡ take (prefix_len (is_up_to p) es - n) (drop n es)
  at_is = filter-at es p h ∙ ap (λ (k : ℕ). take (prefix_len (is_up_to p) es - k) (drop k es)) (sym ends)

  none_left : prefix_len (is_up_to p) es ≤ n → filter (is_at p) es ≡ []
  none_left le =
      let none : prefix_len (is_up_to p) es - n ≡ 0 = omega arith in
      at_is ∙ ap (λ (k : ℕ). take k (drop n es)) none

  pub none_in_rest : length es ≤ n → filter (is_at p) es ≡ []
  none_in_rest out = none_left (omega (arith, prefix_len-le-length (is_up_to p) es))

  pub none_reached : (order : Ordering) (e : IndexEntry) → IsReached es n p order e → is_le order ≡ false → filter (is_at p) es ≡ []
  none_reached order e r is =
      let same : n ≡ prefix_len (is_up_to p) es = front_stops (is_up_to p) es n e ordered (up_to_is es n p order e r ∙ is) in
      none_left (omega arith)

  pub first_reached : (e : IndexEntry) → IsReached es n p Equal e → IsFirstOf e (filter (is_at p) es)
  first_reached e r =
      let k : ℕ = prefix_len (is_up_to p) es - n in
      let more : n + 1 ≤ prefix_len (is_up_to p) es = front_more (is_up_to p) es n e ordered r.inside (up_to_is es n p Equal e r) in
      let parts : drop n es ≡ e ∷ drop (suc n) es = drop-cons es n e r.inside ∙ ap (λ (x : IndexEntry). x ∷ drop (suc n) es) r.read in
      first_and_rest e (filter (is_at p) es) (take (k - 1) (drop (suc n) es)) (at_is ∙ (ap (take k) parts ∙ take_some k e (drop (suc n) es) (omega arith)))

-- The entries of a list before a position are before each of another one from a position on.
abbrev pub IsBefore : List IndexEntry → ℕ → List IndexEntry → ℕ → Type 0
IsBefore other next es n = (k : ℕ) (d : IndexEntry) → n ≤ k → k < length es → next ≤ prefix_len (is_below (slice_index_or es k d).path) other

-- A path that is less than another stays so at a greater one.
lower_yet : (o : Ordering) (x y z : List ℕ) → slice_cmp nat_cmp x y ≡ o → is_gt o ≡ false → is_lt (slice_cmp nat_cmp z x) ≡ true → is_lt (slice_cmp nat_cmp z y) ≡ true
lower_yet Less x y z e h low = ap is_lt (nat_list_cmp_total.trans z x y (Less-from_lt (slice_cmp nat_cmp z x) low) e)
lower_yet Equal x y z e h low = ap is_lt (sym (alike_right nat_list_cmp_total x y z e)) ∙ low
lower_yet Greater x y z e h low = cc

-- So more entries are below it.
fronts_ordered : (es : List IndexEntry) (d : IndexEntry) (x y : List ℕ) → is_gt (slice_cmp nat_cmp x y) ≡ false → prefix_len (is_below x) es ≤ prefix_len (is_below y) es
fronts_ordered es d x y le =
    elim (cases_lt (prefix_len (is_below y) es) (prefix_len (is_below x) es)) [
      | inl l ↦
          let k : ℕ = prefix_len (is_below y) es in
          let low : is_below x (slice_index_or es k d) ≡ true = prefix_len_passes (is_below x) es k d l in
          let lower : is_below y (slice_index_or es k d) ≡ true = lower_yet (slice_cmp nat_cmp x y) x y (slice_index_or es k d).path refl le low in
          let stops : is_below y (slice_index_or es k d) ≡ false = prefix_len_stops (is_below y) es d (omega (arith, prefix_len-le-length (is_below x) es)) in
          cc
      | inr l ↦ l
    ]

-- One entry of a walk, as the code reads it.
module _ (b : PathStorage) (entries stored : List Entry) (n : ℕ) (d : Entry) (path : List ℕ) (inside : n < length entries) (all : entries ≡ stored) (named : path ≡ path_in b (slice_index_or entries n d)) where
  listed : n < length (index_entries b stored)
  listed =
      let inside_stored : n < length stored = subst (λ (l : List Entry). n < length l) all inside in
      omega (arith, length-map stored (index_entry b))

  path_here : (e : IndexEntry) → (slice_index_or (index_entries b stored) n e).path ≡ path
  path_here e =
      let inside_stored : n < length stored = subst (λ (l : List Entry). n < length l) all inside in
      ap (λ (x : IndexEntry). x.path) (get_or-map (index_entry b) stored n d e inside_stored)
      ∙ (ap (λ (l : List Entry). path_in b (slice_index_or l n d)) (sym all) ∙ sym named)

  -- The walk over the other list may go on from its position.
  pub next_before : (other : List IndexEntry) (next : ℕ) → IsBefore other next (index_entries b stored) n → next ≤ prefix_len (is_below path) other
  next_before other next before =
      let e : IndexEntry = index_entry b (slice_index_or entries n d) in
      subst (λ (q : List ℕ). next ≤ prefix_len (is_below q) other) (path_here e) (before n e (omega arith) listed)

  -- It ends before the entries to come.
  pub next_more : (other : List IndexEntry) (next : ℕ) → IsIndex (index_entries b stored) → next ≡ prefix_len (is_below path) other → IsBefore other next (index_entries b stored) (n + 1)
  next_more other next h ends k e le within =
      let es : List IndexEntry = index_entries b stored in
      let ascending : is_gt (slice_cmp nat_cmp (slice_index_or es n e).path (slice_index_or es k e).path) ≡ false = ascends es h n k e (omega arith) within in
      let later : is_gt (slice_cmp nat_cmp path (slice_index_or es k e).path) ≡ false = subst (λ (q : List ℕ). is_gt (slice_cmp nat_cmp q (slice_index_or es k e).path) ≡ false) (path_here e) ascending in
      subst (λ (m : ℕ). m ≤ prefix_len (is_below (slice_index_or es k e).path) other) (sym ends) (fronts_ordered other e path (slice_index_or es k e).path later)
