-- A path has one conflict, and its head reports it.
use Rattle.std.proofs.Common.{◌≡◌, ◌⊎◌, ◌∙◌, inl, inr, refl, sym, ap, ℕ, ◌<◌, Bool, true, false, not, ◌&&◌, ◌||◌, cond, List, [], ◌∷◌, length, get_or, map, reverse, Option, Some, None, is_some, option_map, Result, Ok, if◌then◌else◌, nat_lt, nat_le, ◌==◌, arith, eq-eqb, Ordering}
use Rattle.std.specs.List.{filter, find, list_any}
use Rattle.std.specs.Ordering.{nat_cmp, ordering_then, is_eq}
use Rattle.std.specs.Cmp.Lexicographic.{slice_cmp}
use Rattle.std.specs.declared.cmp.Ordering.TheVariants.{Less, Equal, Greater}
use Rattle.std.proofs.lemmas.Bool.{and_from, cases_eq, or_right, lt-ltb, le-leb, ne_eqb}
use Rattle.std.proofs.lemmas.Bool.Decides.{nat_tests}
use Rattle.std.proofs.lemmas.List.Folds.{list_any_at}
use Rattle.std.proofs.lemmas.List.Sorted.{IsPermutation-reverse, list_any-IsPermutation}
use Rattle.std.proofs.lemmas.Map.Text.{is_eq-slice_cmp}
use Rattle.std.proofs.lemmas.Slice.Eq.{bytes_eq-Decides}
use Rattle.status_index.specs.Entries.{IndexEntry, IsIndex, IndexEntry, entry_cmp, stage_of}
use Rattle.status_compare.specs.declared.error.Error.{Error}
use Rattle.status_call.specs.declared.index_as_worktree.types.Conflict.{Conflict}
use Rattle.status_call.specs.declared.index_as_worktree.types.Conflict.TheVariants.{BothDeleted, AddedByUs, DeletedByThem, AddedByThem, DeletedByUs, BothAdded, BothModified}
use Rattle.status_call.specs.declared.index_as_worktree.types.EntryStatus.{EntryStatus}
use Rattle.status_call.specs.declared.index_as_worktree.types.EntryStatus.TheVariants as statuses
use Rattle.status_call.specs.Conflicts.{conflict_named, conflict_of, has_stage, kept_of, places_of}
use Rattle.status_call.specs.Considered.{is_skipped, is_over, same_path, stages_from, takes_over}
use Rattle.status_call.specs.Laws.{HeadLaw, OneConflictLaw, ReportsConflict, conflict_run}
use Rattle.status_call.specs.Query.{Query}
use Rattle.status_call.specs.Records.{conflict_status, verdict}
use Rattle.status_call.specs.Status.{status_of}

is_equal : (o : Ordering) → is_eq o ≡ true → o ≡ Equal
is_equal Less h = cc
is_equal Equal h = refl
is_equal Greater h = cc

less_from_cmp : (a b : ℕ) → nat_cmp a b ≡ Less → a < b
less_from_cmp a b h = grind (arith, nat_tests)

-- Of two entries of one path in order, the first has the smaller stage.
stages_ascend : (a b : IndexEntry) → same_path a b ≡ true → entry_cmp (a) (b) ≡ Less → stage_of a < stage_of b
stages_ascend a b same h =
    let paths : slice_cmp nat_cmp a.path b.path ≡ Equal = is_equal (slice_cmp nat_cmp a.path b.path) (is_eq-slice_cmp a.path b.path ∙ same) in
    less_from_cmp (stage_of a) (stage_of b) (sym (ap (λ (o : Ordering). ordering_then o (nat_cmp (stage_of a) (stage_of b))) paths) ∙ h)

in_order : (es : List IndexEntry) → IsIndex es → (i j : ℕ) (d : IndexEntry) → i < j → j < length es
    → entry_cmp (get_or es i d) (get_or es j d) ≡ Less
in_order es index i j d h k = index.ascending i j d h k

four : (a b c d : Bool) → a ≡ true → b ≡ true → c ≡ true → d ≡ true → (a && b && c && d) ≡ true
four a b c d h k l m = and_from (a && b && c) d (and_from (a && b) c (and_from a b h k) l) m

not_false : (b : Bool) → b ≡ false → not b ≡ true
not_false b h = ap not h

module _ {T U : Type 0} (q : Query T U) (es : List IndexEntry) where
  over_gives_nothing : (e : IndexEntry) → is_over q es e ≡ true → verdict q es e ≡ Ok None
  over_gives_nothing e h =
      ap (λ (b : Bool). if b then Ok None else (if stage_of e == 0 then status_of q e else Ok (conflict_status (stages_from es e))))
      (or_right (is_skipped q e) (is_over q es e) h)

  taken_over : (a b : IndexEntry) → same_path a b ≡ true → is_skipped q a ≡ false → 0 < stage_of a → stage_of a < stage_of b → takes_over q a b ≡ true
  taken_over a b same skipped staged less =
      four (not (is_skipped q a)) (same_path a b) (nat_lt 0 (stage_of a)) (nat_lt (stage_of a) (stage_of b))
      (not_false (is_skipped q a) skipped) same (lt-ltb 0 (stage_of a) staged) (lt-ltb (stage_of a) (stage_of b) less)

  later_nothing : IsIndex es → (i j : ℕ) (d : IndexEntry) → i < j → j < length es → same_path (get_or es i d) (get_or es j d) ≡ true
      → is_skipped q (get_or es i d) ≡ false → 0 < stage_of (get_or es i d) → verdict q es (get_or es j d) ≡ Ok None
  later_nothing index i j d h k same skipped staged =
      let within : i < length es = omega arith in
      over_gives_nothing (get_or es j d)
      (list_any_at (λ c. takes_over q c (get_or es j d)) es i d within
      (taken_over (get_or es i d) (get_or es j d) same skipped staged (stages_ascend (get_or es i d) (get_or es j d) same (in_order es index i j d h k))))

pub one_conflict_law : {T U : Type 0} (q : Query T U) → OneConflictLaw q
one_conflict_law q es index = λ i j d h k same skipped staged. later_nothing q es index i j d h k same skipped staged

-- A search finds something if the test of the first element holds, or if it finds something in the rest.
is_some_found : {X : Type 0} (b : Bool) (x : X) (o : Option X) (c : Bool) → is_some o ≡ c → is_some (cond b (Some x) o) ≡ (b || c)
is_some_found true x o c h = refl
is_some_found false x o c h = h

is_some_find : {X : Type 0} (p : X → Bool) (xs : List X) → is_some (find p xs) ≡ list_any p xs
is_some_find p [] = refl
is_some_find p (x ∷ xs) = is_some_found (p x) x (find p xs) (list_any p xs) (is_some_find p xs)

any_kept : {X : Type 0} (p : X → Bool) (x : X) (b : Bool) (xs : List X) (c : Bool) → list_any p xs ≡ c → list_any p (cond b (x ∷ xs) xs) ≡ ((b && p x) || c)
any_kept p x true xs c h = ap (λ (t : Bool). p x || t) h
any_kept p x false xs c h = h

any_filter : {X : Type 0} (p t : X → Bool) (xs : List X) → list_any p (filter t xs) ≡ list_any (λ x. t x && p x) xs
any_filter p t [] = refl
any_filter p t (x ∷ xs) = any_kept p x (t x) (filter t xs) (list_any (λ y. t y && p y) xs) (any_filter p t xs)

-- Some entry of the run has the stage.
has_stage_is : (run : List IndexEntry) (stage : ℕ) → has_stage run stage ≡ list_any (λ e. stage_of e == stage) run
has_stage_is run stage =
    is_some_find (λ e. stage_of e == stage) (reverse run)
    ∙ sym (list_any-IsPermutation (λ e. stage_of e == stage) run (reverse run) (IsPermutation-reverse run))

three : (a b c : Bool) → a ≡ true → b ≡ true → c ≡ true → (a && b && c) ≡ true
three a b c h k l = and_from (a && b) c (and_from a b h k) l

has_own_stage : (es : List IndexEntry) (i : ℕ) (d : IndexEntry) → i < length es → has_stage (conflict_run es (get_or es i d)) (stage_of (get_or es i d)) ≡ true
has_own_stage es i d h =
    let e : IndexEntry = get_or es i d in
    let own : ℕ = stage_of e in
    has_stage_is (conflict_run es e) own
    ∙ (any_filter (λ (c : IndexEntry). stage_of c == own) (λ c. same_path c e && nat_le own (stage_of c)) es
    ∙ list_any_at (λ c. same_path c e && nat_le own (stage_of c) && (stage_of c == own)) es i d h
    (three (same_path e e) (nat_le own own) (own == own) ((bytes_eq-Decides e.path e.path).1 refl) (le-leb own own (omega arith)) (eq-eqb own own refl)))

abbrev SomeConflict : Bool → Bool → Bool → Type 0
SomeConflict a b c = (s : Conflict) × (conflict_named a b c ≡ Some s)

named : (a b c : Bool) → (a ≡ true) ⊎ ((b ≡ true) ⊎ (c ≡ true)) → SomeConflict a b c
named true false false h = (BothDeleted, refl)
named false true false h = (AddedByUs, refl)
named true true false h = (DeletedByThem, refl)
named false false true h = (AddedByThem, refl)
named true false true h = (DeletedByUs, refl)
named false true true h = (BothAdded, refl)
named true true true h = (BothModified, refl)
named false false false (inl h) = cc
named false false false (inr (inl h)) = cc
named false false false (inr (inr h)) = cc

stage_cases : (s : ℕ) → 0 < s → s < 4 → (s ≡ 1) ⊎ ((s ≡ 2) ⊎ (s ≡ 3))
stage_cases s h k = stage_cases_at (cases_eq s 1) (cases_eq s 2) where
  stage_cases_at : (s ≡ 1) ⊎ (s ≡ 1 → ⊥) → (s ≡ 2) ⊎ (s ≡ 2 → ⊥) → (s ≡ 1) ⊎ ((s ≡ 2) ⊎ (s ≡ 3))
  stage_cases_at (inl e) f = inl e
  stage_cases_at (inr e) (inl f) = inr (inl f)
  stage_cases_at (inr e) (inr f) = inr (inr (omega arith))

stage_is : (run : List IndexEntry) (s : ℕ) → has_stage run s ≡ true → (s ≡ 1) ⊎ ((s ≡ 2) ⊎ (s ≡ 3)) → (has_stage run 1 ≡ true) ⊎ ((has_stage run 2 ≡ true) ⊎ (has_stage run 3 ≡ true))
stage_is run s h (inl e) = inl (sym (ap (has_stage run) e) ∙ h)
stage_is run s h (inr (inl e)) = inr (inl (sym (ap (has_stage run) e) ∙ h))
stage_is run s h (inr (inr e)) = inr (inr (sym (ap (has_stage run) e) ∙ h))

low_stage : (e : IndexEntry) → stage_of e < 4
low_stage e = omega arith

abbrev SomeConflictOf : List IndexEntry → Type 0
SomeConflictOf run = (c : Conflict) × (conflict_of run ≡ Some c)

-- A run that has a stage names a conflict.
conflict_at : (run : List IndexEntry) (s : ℕ) → 0 < s → s < 4 → has_stage run s ≡ true → SomeConflictOf run
conflict_at run s h k own = named (has_stage run 1) (has_stage run 2) (has_stage run 3) (stage_is run s own (stage_cases s h k))

module _ {T U : Type 0} (q : Query T U) (es : List IndexEntry) (e : IndexEntry) where
  -- The verdict by the conflict that is named, if any.
  abbrev reported : Option Conflict → Result (Option (EntryStatus T U)) Error
  reported named = Ok (option_map (λ c. statuses.Conflict c (map (option_map kept_of) (places_of (conflict_run es e)))) named)

  abbrev staged_reported : Bool → Result (Option (EntryStatus T U)) Error
  staged_reported b = if b then status_of q e else reported (conflict_of (conflict_run es e))

  abbrev left_reported : Bool → Result (Option (EntryStatus T U)) Error
  left_reported b = if b then Ok None else staged_reported (stage_of e == 0)

  head_reported : 0 < stage_of e → is_skipped q e ≡ false → is_over q es e ≡ false → verdict q es e ≡ reported (conflict_of (conflict_run es e))
  head_reported staged skipped over =
      ap (λ (b : Bool). left_reported (b || is_over q es e)) skipped
      ∙ (ap left_reported over ∙ ap staged_reported (ne_eqb (stage_of e) 0 (λ z. omega arith)))

  reports_conflict : 0 < stage_of e → is_skipped q e ≡ false → is_over q es e ≡ false → SomeConflictOf (conflict_run es e) → (c : Conflict) × ReportsConflict q es e c
  reports_conflict staged skipped over (c, is) = (c, (is, head_reported staged skipped over ∙ ap reported is))

pub head_law : {T U : Type 0} (q : Query T U) → HeadLaw q
head_law q es i d h staged skipped over =
    reports_conflict q es (get_or es i d) staged skipped over
    (conflict_at (conflict_run es (get_or es i d)) (stage_of (get_or es i d)) staged (low_stage (get_or es i d)) (has_own_stage es i d h))
