-- The run of a conflict's entries in an index: all later entries of the path.
use Rattle.std.proofs.Common.{◌≡◌, refl, sym, ap, ◌∙◌, ℕ, ◌+◌, ◌-◌, ◌<◌, ◌≤◌, min, inl, inr, Bool, true, false, ◌&&◌, nat_le, List, [], ◌++◌, length, filter, take, drop, slice_index_or, All, arith}
use Rattle.std.specs.List.{list_any, prefix_len}
use Rattle.std.proofs.lemmas.Bool.{cases_lt, cases_Bool, false_from_ne_true, and_parts, and_from, and_left, and_right, or_from, not_from_false, ne_eqb, le-leb, lt-leb, lt-ltb, le-ltb}
use Rattle.std.proofs.lemmas.List.{append-nil, length-take, length-drop, get_or-take, get_or-drop, take-take, take-append-drop}
use Rattle.std.proofs.lemmas.List.Elements.{filter-append}
use Rattle.std.proofs.lemmas.List.Folds.{list_any-append, list_any_none, list_any_at}
use Rattle.std.proofs.lemmas.List.Sums.{prefix_len-le-length, prefix_len_passes, prefix_len_stops}
use Rattle.status_index.specs.Entries.{IndexEntry, IsIndex, stage_of}
use Rattle.status_index.specs.Stretch.{part_of}
use Rattle.status_call.specs.Conflicts.{is_in_run}
use Rattle.status_call.specs.Considered.{same_path, is_skipped, is_over, stages_from, takes_over}
use Rattle.status_call.specs.Query.{Query}
use Rattle.status_call.specs.Steps.{IsFresh}
use Rattle.status_call.proofs.IndexOrder.{same_from_path, same_back, path_same, stage_rises, stage_small, less_at, same_between, stage_climbs}
use Rattle.status_call.proofs.Stretch.{All-drop_at, All-take_from, All-drop_from, All-part_from, list_split, take_part, filter_none, filter_all}

module _ (es : List IndexEntry) (index : IsIndex es) (i : ℕ) (x : IndexEntry) (l : i < length es) (here : (d : IndexEntry) → slice_index_or es i d ≡ x) where
  -- The stages of x's path rise from x on.
  pub climb : (k : ℕ) (d : IndexEntry) → i ≤ k → k < length es → same_path (slice_index_or es k d) x ≡ true → stage_of x + (k - i) ≤ stage_of (slice_index_or es k d)
  climb k d m n same =
      let e : i + (k - i) ≡ k = omega arith in
      let h : same_path (slice_index_or es (i + (k - i)) d) (slice_index_or es i d) ≡ true = rw (e, here d) same in
      rw (e, here d) at (stage_climbs es index d i (k - i) (omega arith) h)

  between : (j k : ℕ) (d : IndexEntry) → i ≤ j → j ≤ k → k < length es → same_path (slice_index_or es k d) x ≡ true → same_path (slice_index_or es j d) x ≡ true
  between j k d m n o same =
      let h : same_path (slice_index_or es k d) (slice_index_or es i d) ≡ true = rw (here d) same in
      rw (here d) at (same_between es index d i j k m n o h)

  -- An entry before x has another path, or a smaller stage.
  before : (k : ℕ) (d : IndexEntry) → k < i → same_path (slice_index_or es k d) x ≡ true → stage_of (slice_index_or es k d) < stage_of x
  before k d m same =
      let less = less_at es index d k i m l in
      stage_rises (slice_index_or es k d) x (rw (here d) at less) (path_same (slice_index_or es k d) x same)

  module _ {T U : Type 0} (q : Query T U) (fresh : IsFresh q (take i es) (drop i es)) where
    none_before : list_any (λ d. takes_over q d x) (take i es) ≡ false
    none_before =
        rw (here x) at (All-drop_at (λ r. list_any (λ d. takes_over q d r) (take i es) ≡ false) es i fresh i x (omega arith) l)

    none_behind : All (λ d. takes_over q d x ≡ false) (drop i es)
    none_behind =
        All-drop_from (λ d. takes_over q d x ≡ false) es i (λ k d m n.
        elim (cases_Bool (same_path (slice_index_or es k d) x)) [
          | inl same ↦ and_right _ _ (le-ltb (stage_of (slice_index_or es k d)) (stage_of x) (omega (arith, climb k d m n same)))
          | inr other ↦ and_left _ _ (and_left _ _ (and_right _ _ other))
        ])

    -- No entry at all takes over x.
    pub not_over : is_over q es x ≡ false
    not_over =
        ap (list_any (λ d. takes_over q d x)) (sym (take-append-drop i es))
        ∙ list_any-append (λ d. takes_over q d x) (take i es) (drop i es)
        ∙ or_from _ _ none_before (list_any_none (λ d. takes_over q d x) (drop i es) none_behind)

    -- If the entries before position n take over none from n on, those from n on are fresh.
    pub fresh_more : (n : ℕ) → i ≤ n → ((j k : ℕ) (d e : IndexEntry) → i ≤ j → j < n → j < length es → n ≤ k → k < length es → takes_over q (slice_index_or es j d) (slice_index_or es k e) ≡ false) → IsFresh q (take n es) (drop n es)
    fresh_more n m apart =
        All-drop_from (λ r. list_any (λ d. takes_over q d r) (take n es) ≡ false) es n (λ k e o p.
        let r = slice_index_or es k e in
        let first : list_any (λ d. takes_over q d r) (take i es) ≡ false = All-drop_at (λ r. list_any (λ d. takes_over q d r) (take i es) ≡ false) es i fresh k e (omega arith) p in
        let second : list_any (λ d. takes_over q d r) (part_of es i n) ≡ false = list_any_none (λ d. takes_over q d r) (part_of es i n) (All-part_from es i n (λ d. takes_over q d r ≡ false) (λ j d u v w. apart j k d e u v w o p)) in
        ap (list_any (λ d. takes_over q d r)) (take_part es i n m)
        ∙ list_any-append (λ d. takes_over q d r) (take i es) (part_of es i n)
        ∙ or_from _ _ first second)

  -- x is the first of the entries that are read, which are at least three if there are so many.
  module _ (m : ℕ) (three : 3 ≤ m) (staged : 0 < stage_of x) where
    abbrev front : List IndexEntry
    front = take m (drop i es)

    abbrev pub count : ℕ
    count = prefix_len (is_in_run x.path) front

    long_front : length front ≡ min m (length es - i)
    long_front = omega (arith, length-take m (drop i es), length-drop i es)

    count_le : count ≤ length front
    count_le = prefix_len-le-length (is_in_run x.path) front

    pub inside : i + count ≤ length es
    inside = omega (arith, count_le, long_front)

    at_front : (k : ℕ) (d : IndexEntry) → k < m → slice_index_or front k d ≡ slice_index_or es (i + k) d
    at_front k d h = get_or-take m (drop i es) k d h ∙ get_or-drop i es k d

    in_run : (k : ℕ) (d : IndexEntry) → k < count → is_in_run x.path (slice_index_or es (i + k) d) ≡ true
    in_run k d h =
        rw (at_front k d (omega (arith, count_le, long_front))) at (prefix_len_passes (is_in_run x.path) front k d h)

    pub run_same : (k : ℕ) (d : IndexEntry) → i ≤ k → k < i + count → same_path (slice_index_or es k d) x ≡ true
    run_same k d h n =
        let e : i + (k - i) ≡ k = omega arith in
        (and_parts _ _ (rw e at (in_run (k - i) d (omega arith)))).0

    stays_in_run : (k : ℕ) (d : IndexEntry) → i ≤ k → k < length es → same_path (slice_index_or es k d) x ≡ true → is_in_run x.path (slice_index_or es k d) ≡ true
    stays_in_run k d h n same =
        and_from _ _ same (not_from_false _ (ne_eqb (stage_of (slice_index_or es k d)) 0 (λ e. omega (arith, climb k d h n same))))

    -- After the run no entry has the path.
    pub run_stops : (k : ℕ) (d : IndexEntry) → i + count ≤ k → k < length es → same_path (slice_index_or es k d) x ≡ false
    run_stops k d h n =
        false_from_ne_true _ (λ same.
        let near : k - i < 3 = omega (arith, climb k d (omega arith) n same, stage_small (slice_index_or es k d)) in
        let next = between (i + count) k d (omega arith) h n same in
        let yes = stays_in_run (i + count) d (omega arith) (omega arith) next in
        let short : count < length front = omega (arith, long_front) in
        let no = rw (at_front count d (omega arith)) at (prefix_len_stops (is_in_run x.path) front d short) in
        cc)

    pub some : 0 < count
    some =
        elim (cases_lt 0 count) [
          | inl h ↦ h
          | inr h ↦
              let other : same_path x x ≡ false = rw (here x) at (run_stops i x (omega arith) l) in
              let same = same_from_path x x refl in
              cc
        ]

    pub part_is_run : part_of es i (i + count) ≡ take count front
    part_is_run =
        let e : i + count - i ≡ count = omega arith in
        ap (λ (n : ℕ). take n (drop i es)) e ∙ sym (take-take count m (drop i es) (omega (arith, count_le, long_front)))

    abbrev wanted : IndexEntry → Bool
    wanted d = same_path d x && nat_le (stage_of x) (stage_of d)

    pub stages_are : stages_from es x ≡ part_of es i (i + count)
    stages_are =
        let part = part_of es i (i + count) in
        let rest = drop (i + count) es in
        let first : filter wanted (take i es) ≡ [] = filter_none wanted (take i es) (All-take_from (λ d. wanted d ≡ false) es i (λ k d m n.
        elim (cases_Bool (same_path (slice_index_or es k d) x)) [
          | inl same ↦ and_right _ _ (lt-leb (stage_of x) (stage_of (slice_index_or es k d)) (before k d m same))
          | inr other ↦ and_left _ _ other
        ])) in
        let middle : filter wanted part ≡ part = filter_all wanted part (All-part_from es i (i + count) (λ d. wanted d ≡ true) (λ k d m n o.
        let same = run_same k d m n in
        and_from _ _ same (le-leb (stage_of x) (stage_of (slice_index_or es k d)) (omega (arith, climb k d m o same))))) in
        let last : filter wanted rest ≡ [] = filter_none wanted rest (All-drop_from (λ d. wanted d ≡ false) es (i + count) (λ k d m n. and_left _ _ (run_stops k d m n))) in
        ap (filter wanted) (list_split es i (i + count) (omega arith))
        ∙ filter-append wanted (take i es ++ part) rest
        ∙ ap (λ (ys : List IndexEntry). ys ++ filter wanted rest) (filter-append wanted (take i es) part ∙ ap (λ (ys : List IndexEntry). ys ++ filter wanted part) first ∙ middle)
        ∙ ap (λ (ys : List IndexEntry). part ++ ys) last
        ∙ append-nil part

    module _ {T U : Type 0} (q : Query T U) where
      -- x takes over the rest of the run.
      pub later_over : is_skipped q x ≡ false → (k : ℕ) (d : IndexEntry) → i < k → k < i + count → is_over q es (slice_index_or es k d) ≡ true
      later_over kept k d m n =
          let r = slice_index_or es k d in
          let same = run_same k d (omega arith) n in
          let takes : takes_over q x r ≡ true = and_from _ _ (and_from _ _ (and_from _ _ (not_from_false _ kept) (same_back r x same)) (lt-ltb 0 (stage_of x) staged)) (lt-ltb (stage_of x) (stage_of r) (omega (arith, climb k d (omega arith) (omega (arith, inside)) same))) in
          list_any_at (λ e. takes_over q e r) es i x l (rw (here x) takes)

      -- It takes over none after the run.
      pub run_apart : (j k : ℕ) (d e : IndexEntry) → i ≤ j → j < i + count → i + count ≤ k → k < length es → takes_over q (slice_index_or es j d) (slice_index_or es k e) ≡ false
      run_apart j k d e u v w o =
          let a = slice_index_or es j d in
          let b = slice_index_or es k e in
          let other : same_path a b ≡ false = false_from_ne_true _ (λ t.
          let same = same_from_path b x (sym (path_same a b t) ∙ path_same a x (run_same j d u v)) in
          let no = run_stops k e w o in cc) in
          and_left _ _ (and_left _ _ (and_right _ _ other))
