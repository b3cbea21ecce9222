-- The paths in conflict, gone over from one run of sides to the next.
use Rattle.std.proofs.Common.{◌≡◌, refl, sym, ap, subst, ◌∙◌, ℕ, ◌+◌, ◌-◌, ◌<◌, ◌≤◌, inl, inr, Bool, true, false, not, ◌||◌, List, [], ◌∷◌, ◌++◌, length, map, filter, take, drop, slice_index_or, All, Some, None, arith}
use Rattle.std.specs.List.{dedup_from, flat_map, list_any}
use Rattle.std.specs.Str.{bytes_eq}
use Rattle.std.proofs.lemmas.Bool.{cases_Bool, cases_lt, false_from_ne_true, and_left, and_right, and_parts, and_from, not_from_false, ne_eqb, eq-eqb}
use Rattle.std.proofs.lemmas.List.{append-nil, append_assoc, drop_all, drop_more, drop-drop, get_or-map, length-map, take-append-drop}
use Rattle.std.proofs.lemmas.List.Concat.{flat_map-cons}
use Rattle.std.proofs.lemmas.List.Elements.{All-head, All-tail, filter-append}
use Rattle.std.proofs.lemmas.List.Folds.{length-prefix_len}
use Rattle.status_index.specs.declared.entry.Entry.{Entry}
use Rattle.status_index.specs.declared.entry.PathStorage.{PathStorage}
use Rattle.status_index.specs.Entries.{IndexEntry, IsIndex, index_entry, index_entries, stage_of}
use Rattle.status_index.specs.Mode.{is_submodule}
use Rattle.status_index.specs.Stretch.{part_of}
use Rattle.status_call.specs.declared.index_as_worktree.types.Conflict.{Conflict}
use Rattle.status_call.specs.Conflicts.{conflict_of, is_in_run, run_at}
use Rattle.status_call.specs.Considered.{same_path}
use Rattle.status_call.proofs.ConflictRuns.{climb, count, inside, some, run_same, run_stops, part_is_run}
use Rattle.status_call.proofs.Conflicts.{always_named, run_staged}
use Rattle.status_call.proofs.IndexOrder.{path_same, same_from_path}
use Rattle.status_call.proofs.Stretch.{All-take_from, All-drop_from, All-part_from, list_split, map-part, filter_none, filter_all}
use Rattle.git_status.specs.Lines.{Row, conflict_letters}
use Rattle.git_status.specs.StagedRuns.{is_selected, is_side, row_of, selected_row, side_paths, sides, unmerged_paths, unmerged_rows}

-- The sides of a path are one of the paths, before those of others.
others_rest : (x : IndexEntry) (rest : List IndexEntry) → All (λ e. same_path e x ≡ false) rest → dedup_from bytes_eq x.path (side_paths rest) ≡ x.path ∷ unmerged_paths rest
others_rest x [] h = refl
others_rest x (e ∷ es) h =
    let first : bytes_eq e.path x.path ≡ false = All-head (λ (y : IndexEntry). same_path y x ≡ false) e es h in
    let rest = others_rest x es (All-tail (λ (y : IndexEntry). same_path y x ≡ false) e es h) in
    elim (cases_Bool (is_side e)) [
      | inl side ↦ rw (side, first) refl
      | inr plain ↦ rw plain rest
    ]

others_after : (x : IndexEntry) (run rest : List IndexEntry) → All (λ e. is_in_run x.path e ≡ true) run → All (λ e. same_path e x ≡ false) rest → dedup_from bytes_eq x.path (side_paths (run ++ rest)) ≡ x.path ∷ unmerged_paths rest
others_after x [] rest all others = others_rest x rest others
others_after x (e ∷ run) rest all others =
    let first : is_in_run x.path e ≡ true = All-head (λ (y : IndexEntry). is_in_run x.path y ≡ true) e run all in
    let parts = and_parts (bytes_eq e.path x.path) (is_side e) first in
    rw (parts.1, parts.0) (others_after x run rest (All-tail (λ (y : IndexEntry). is_in_run x.path y ≡ true) e run all) others)

module _ (es : List IndexEntry) where
  -- No side before a position has the path of an entry from there on.
  abbrev pub IsPast : ℕ → Type 0
  IsPast at = (j k : ℕ) (d e : IndexEntry) → j < at → at ≤ k → k < length es → is_in_run (slice_index_or es k e).path (slice_index_or es j d) ≡ false

  pub past_none : IsPast 0
  past_none j k d e l m n = absurd (omega arith)

  -- The rows of the paths in conflict from a position on.
  abbrev pub rows_from : (List ℕ → Bool → Bool) → ℕ → List Row
  rows_from included at = flat_map (row_of included es) (unmerged_paths (drop at es))

  -- The rows so far, and those to come.
  pub record IsReached (included : List ℕ → Bool → Bool) (at : ℕ) (rows : List Row) : Type 0 where
    pub past : IsPast at
    pub all : rows ++ rows_from included at ≡ unmerged_rows included es

-- A list from a position on is its part up to another one, and what is left.
drop_parts : {X : Type 0} (xs : List X) (a b : ℕ) → a ≤ b → drop a xs ≡ part_of xs a b ++ drop b xs
drop_parts xs a b le =
    let far : a + (b - a) ≡ b = omega arith in
    sym (take-append-drop (b - a) (drop a xs)) ∙ ap (λ ys. part_of xs a b ++ ys) (drop-drop (b - a) a xs ∙ ap (λ (k : ℕ). drop k xs) far)

module _ (included : List ℕ → Bool → Bool) (es : List IndexEntry) (at : ℕ) (x : IndexEntry) (l : at < length es) (here : (d : IndexEntry) → slice_index_or es at d ≡ x) where
  parts : drop at es ≡ x ∷ drop (at + 1) es
  parts = drop_more es at x l ∙ ap (λ (y : IndexEntry). y ∷ drop (at + 1) es) (here x)

  -- An entry with stage 0 has no row.
  module _ (plain : stage_of x ≡ 0) where
    not_side : is_side x ≡ false
    not_side = ap not (eq-eqb (stage_of x) 0 plain)

    past_plain : IsPast es at → IsPast es (at + 1)
    past_plain past j k d e m n o =
        elim (cases_lt j at) [
          | inl before ↦ past j k d e before (omega arith) o
          | inr last ↦
              let same : j ≡ at = omega arith in
              let is : slice_index_or es j d ≡ x = ap (λ (i : ℕ). slice_index_or es i d) same ∙ here d in
              and_right _ _ (ap is_side is ∙ not_side)
        ]

    rows_plain : rows_from es included at ≡ rows_from es included (at + 1)
    rows_plain =
        ap (λ (ys : List IndexEntry). flat_map (row_of included es) (unmerged_paths ys)) parts
        ∙ rw not_side refl

    pub reached_plain : (rows : List Row) → IsReached es included at rows → IsReached es included (at + 1) rows
    reached_plain rows r = record {
      past = past_plain r.past;
      all = ap (λ (more : List Row). rows ++ more) (sym rows_plain) ∙ r.all;
    }

  -- The sides of a path are a run.
  module _ (index : IsIndex es) (staged : 0 < stage_of x) where
    abbrev three : 3 ≤ 3
    three = omega arith

    abbrev n : ℕ
    n = count es index at x l here 3 three staged

    abbrev part : List IndexEntry
    part = part_of es at (at + n)

    pub run_long : length (run_at es at x.path) ≡ n
    run_long = length-prefix_len (is_in_run x.path) (take 3 (drop at es))

    pub run_inside : at + n ≤ length es
    run_inside = inside es index at x l here 3 three staged

    pub run_some : 0 < n
    run_some = some es index at x l here 3 three staged

    stops : (k : ℕ) (d : IndexEntry) → at + n ≤ k → k < length es → same_path (slice_index_or es k d) x ≡ false
    stops = run_stops es index at x l here 3 three staged

    in_run : (k : ℕ) (d : IndexEntry) → at ≤ k → k < at + n → k < length es → is_in_run x.path (slice_index_or es k d) ≡ true
    in_run k d from to within =
        let same = run_same es index at x l here 3 three staged k d from to in
        let high : stage_of (slice_index_or es k d) ≡ 0 → ⊥ = λ z. omega (arith, climb es index at x l here k d from within same) in
        and_from _ _ same (not_from_false _ (ne_eqb (stage_of (slice_index_or es k d)) 0 high))

    past_run : IsPast es at → IsPast es (at + n)
    past_run past j k d e m o within =
        elim (cases_lt j at) [
          | inl before ↦ past j k d e before (omega arith) within
          | inr later ↦
              let a = slice_index_or es j d in
              let b = slice_index_or es k e in
              and_left _ _ (false_from_ne_true (same_path a b) (λ t.
              let same = same_from_path b x (sym (path_same a b t) ∙ path_same a x (run_same es index at x l here 3 three staged j d later m)) in
              let no = stops k e o within in cc))
        ]

    sides_are : IsPast es at → sides es x.path ≡ run_at es at x.path
    sides_are past =
        let test = is_in_run x.path in
        let first : filter test (take at es) ≡ [] = filter_none test (take at es) (All-take_from (λ e. test e ≡ false) es at (λ j d m o. subst (λ (q : IndexEntry). is_in_run q.path (slice_index_or es j d) ≡ false) (here x) (past j at d x m (omega arith) l))) in
        let middle : filter test part ≡ part = filter_all test part (All-part_from es at (at + n) (λ e. test e ≡ true) in_run) in
        let last : filter test (drop (at + n) es) ≡ [] = filter_none test (drop (at + n) es) (All-drop_from (λ e. test e ≡ false) es (at + n) (λ k d m o. and_left _ _ (stops k d m o))) in
        ap (filter test) (list_split es at (at + n) (omega arith))
        ∙ filter-append test (take at es ++ part) (drop (at + n) es)
        ∙ ap (λ (ys : List IndexEntry). ys ++ filter test (drop (at + n) es)) (filter-append test (take at es) part ∙ ap (λ (ys : List IndexEntry). ys ++ filter test part) first ∙ middle)
        ∙ ap (λ (ys : List IndexEntry). part ++ ys) last
        ∙ append-nil part
        ∙ part_is_run es index at x l here 3 three staged

    paths_run : unmerged_paths (drop at es) ≡ x.path ∷ unmerged_paths (drop (at + n) es)
    paths_run =
        let side : is_side x ≡ true = not_from_false _ (ne_eqb (stage_of x) 0 (λ z. omega arith)) in
        let rest : drop (at + 1) es ≡ part_of es (at + 1) (at + n) ++ drop (at + n) es = drop_parts es (at + 1) (at + n) (omega (arith, run_some)) in
        ap (λ (ys : List IndexEntry). unmerged_paths ys) (parts ∙ ap (λ (ys : List IndexEntry). x ∷ ys) rest)
        ∙ rw side (others_after x (part_of es (at + 1) (at + n)) (drop (at + n) es)
        (All-part_from es (at + 1) (at + n) (λ e. is_in_run x.path e ≡ true) (λ k d from to within. in_run k d (omega arith) to within))
        (All-drop_from (λ e. same_path e x ≡ false) es (at + n) stops))

    rows_run : IsPast es at → rows_from es included at ≡ selected_row included x.path (run_at es at x.path) ++ rows_from es included (at + n)
    rows_run past =
        ap (flat_map (row_of included es)) paths_run
        ∙ flat_map-cons (row_of included es) x.path (unmerged_paths (drop (at + n) es))
        ∙ ap (λ (run : List IndexEntry). selected_row included x.path run ++ rows_from es included (at + n)) (sides_are past)

    pub reached_run : (rows : List Row) → IsReached es included at rows → IsReached es included (at + n) (rows ++ selected_row included x.path (run_at es at x.path))
    reached_run rows r =
        let row = selected_row included x.path (run_at es at x.path) in
        record {
          past = past_run r.past;
          all = append_assoc rows row (rows_from es included (at + n)) ∙ ap (λ (more : List Row). rows ++ more) (sym (rows_run r.past)) ∙ r.all;
        }

-- At the end all rows are there.
pub reached_end : (included : List ℕ → Bool → Bool) (es : List IndexEntry) (at : ℕ) (rows : List Row) → length es ≤ at → IsReached es included at rows → rows ≡ unmerged_rows included es
reached_end included es at rows out r =
    sym (append-nil rows)
    ∙ ap (λ (ys : List IndexEntry). rows ++ flat_map (row_of included es) (unmerged_paths ys)) (sym (drop_all at es out))
    ∙ r.all

pub reached_start : (included : List ℕ → Bool → Bool) (es : List IndexEntry) → IsReached es included 0 []
reached_start included es = record { past = past_none es; all = refl }

list_any_map : {X Y : Type 0} (f : X → Y) (p : Y → Bool) (xs : List X) → list_any p (map f xs) ≡ list_any (λ x. p (f x)) xs
list_any_map f p [] = refl
list_any_map f p (x ∷ xs) = ap (λ (b : Bool). p (f x) || b) (list_any_map f p xs)

-- The entries as the code reads them.
pub index_same : (b given : PathStorage) (entries stored : List Entry) → entries ≡ stored → given ≡ b → index_entries given entries ≡ index_entries b stored
index_same b given entries stored all backed =
    ap (index_entries given) all ∙ ap (λ (s : PathStorage). index_entries s stored) backed

module _ (included : List ℕ → Bool → Bool) (b : PathStorage) (entries : List Entry) (at : ℕ) (d : Entry) (index : IsIndex (index_entries b entries)) (within : at < length entries) where
  abbrev es : List IndexEntry
  es = index_entries b entries

  abbrev x : IndexEntry
  x = index_entry b (slice_index_or entries at d)

  listed : at < length es
  listed = omega (arith, length-map entries (index_entry b))

  here : (e : IndexEntry) → slice_index_or es at e ≡ x
  here e = get_or-map (index_entry b) entries at d e within

  pub stored_plain : (rows : List Row) → stage_of x ≡ 0 → IsReached es included at rows → IsReached es included (at + 1) rows
  stored_plain rows plain r = reached_plain included es at x listed here plain rows r

  module _ (some : stage_of x ≡ 0 → ⊥) (path : List ℕ) (named : path ≡ x.path) where
    staged : 0 < stage_of x
    staged = omega (arith, some)

    abbrev long : ℕ
    long = count es index at x listed here 3 (omega arith) staged

    run_same_path : run_at es at path ≡ run_at es at x.path
    run_same_path = ap (λ (q : List ℕ). run_at es at q) named

    length_is : length (run_at es at path) ≡ long
    length_is = ap (λ (run : List IndexEntry). length run) run_same_path ∙ run_long included es at x listed here index staged

    pub stored_none : conflict_of (run_at es at path) ≡ None → ⊥
    stored_none h =
        always_named (run_at es at path) (omega (arith, length_is, run_some included es at x listed here index staged)) (run_staged path (take 3 (drop at es))) h

    module _ (conflict : Conflict) (more : ℕ) (is : conflict_of (run_at es at path) ≡ Some conflict) (sum : more + 1 ≡ length (run_at es at path)) where
      end_is : at + long ≡ at + more + 1
      end_is = omega (arith, sum, length_is)

      pub end_inside : at + more + 1 ≤ length entries
      end_inside = omega (arith, end_is, run_inside included es at x listed here index staged, length-map entries (index_entry b))

      sides_stored : index_entries b (part_of entries at (at + more + 1)) ≡ run_at es at path
      sides_stored =
          map-part (index_entry b) entries at (at + more + 1)
          ∙ (ap (λ (k : ℕ). part_of es at k) (sym end_is)
          ∙ (part_is_run es index at x listed here 3 (omega arith) staged ∙ sym run_same_path))

      chosen : list_any (λ e. included path (is_submodule e.mode)) (part_of entries at (at + more + 1)) ≡ is_selected included path (run_at es at path)
      chosen =
          sym (list_any_map (index_entry b) (λ (e : IndexEntry). included path (is_submodule e.mode)) (part_of entries at (at + more + 1)))
          ∙ ap (is_selected included path) sides_stored

      reached_rows : (rows all : List Row) → IsReached es included at rows → rows ++ selected_row included path (run_at es at path) ≡ all → IsReached es included (at + more + 1) all
      reached_rows rows all r same =
          let reached : IsReached es included (at + long) (rows ++ selected_row included x.path (run_at es at x.path)) = reached_run included es at x listed here index staged rows r in
          let shown : rows ++ selected_row included x.path (run_at es at x.path) ≡ all = ap (λ (q : List ℕ). rows ++ selected_row included q (run_at es at q)) (sym named) ∙ same in
          subst (λ (k : ℕ). IsReached es included k all) end_is (subst (IsReached es included (at + long)) shown reached)

      module _ (rows : List Row) (r : IsReached es included at rows) (answer : Bool) (answers : answer ≡ list_any (λ e. included path (is_submodule e.mode)) (part_of entries at (at + more + 1))) where
        pub stored_selected : answer ≡ true → IsReached es included (at + more + 1) (rows ++ (path, conflict_letters conflict) ∷ [])
        stored_selected took =
            let test : is_selected included path (run_at es at path) ≡ true = sym (answers ∙ chosen) ∙ took in
            reached_rows rows (rows ++ (path, conflict_letters conflict) ∷ []) r (ap (λ (row : List Row). rows ++ row) (rw (test, is) refl))

        pub stored_left : answer ≡ false → IsReached es included (at + more + 1) rows
        stored_left left =
            let test : is_selected included path (run_at es at path) ≡ false = sym (answers ∙ chosen) ∙ left in
            reached_rows rows rows r (ap (λ (row : List Row). rows ++ row) (rw test refl) ∙ append-nil rows)
