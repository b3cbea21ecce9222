-- In an index whose stats alone changed, the same entries are skipped, and conflicts are the same.
use Rattle.std.proofs.Common.{◌≡◌, ◌∙◌, refl, sym, ap, ℕ, ◌==◌, Bool, true, false, cond, ◌&&◌, ◌||◌, List, [], ◌∷◌, ◌++◌, map, filter, Option, Some, None, is_some, option_map, Result, Ok, if◌then◌else◌}
use Rattle.std.specs.Prelude.{find, nat_le, reverse}
use Rattle.std.specs.List.{list_any}
use Rattle.std.proofs.Math.Path.{fun_ext}
use Rattle.std.proofs.lemmas.List.{map-append, reverse-append}
use Rattle.status_index.specs.Entries.{IndexEntry, stage_of}
use Rattle.status_index.specs.Stretch.{is_under}
use Rattle.status_index.specs.States.{with_stat}
use Rattle.status_index.specs.declared.stat.Stat.{Stat}
use Rattle.status_compare.specs.declared.error.Error.{Error}
use Rattle.status_call.specs.Conflicts.{conflict_named, conflict_of, has_stage, kept_of, places_of}
use Rattle.status_call.specs.Considered.{considered, is_over, is_skipped, same_path, stages_from, takes_over}
use Rattle.status_call.specs.IndexChanges.{DifferInStats}
use Rattle.status_call.specs.Query.{Query}
use Rattle.status_call.specs.Records.{conflict_status, verdict}
use Rattle.status_call.specs.Status.{status_of}
use Rattle.status_call.specs.declared.index_as_worktree.types.Conflict.{Conflict}
use Rattle.status_call.specs.declared.index_as_worktree.types.EntryStatus.{EntryStatus}
use Rattle.status_call.specs.declared.index_as_worktree.types.EntryStatus.TheVariants as statuses
use Rattle.git_status.specs.Lines.{conflict_letters, letters}
use Rattle.git_status.specs.RefreshLaw.{SelectsSame, shown_letters}

-- ---- mapped lists

module _ {A B : Type 0} (f : A → B) (p : B → Bool) where
  any_map : (xs : List A) → list_any p (map f xs) ≡ list_any (λ x. p (f x)) xs
  any_map [] = refl
  any_map (x ∷ xs) = ap (λ (b : Bool). p (f x) || b) (any_map xs)

  filter_map_is : (xs : List A) → filter p (map f xs) ≡ map f (filter (λ x. p (f x)) xs)
  filter_map_is [] = refl
  filter_map_is (x ∷ xs) = by (p (f x)) (filter_map_is xs)
    where
      by : (b : Bool) → filter p (map f xs) ≡ map f (filter (λ y. p (f y)) xs) → cond b (f x ∷ filter p (map f xs)) (filter p (map f xs)) ≡ map f (cond b (x ∷ filter (λ y. p (f y)) xs) (filter (λ y. p (f y)) xs))
      by true rest = ap (λ (l : List B). f x ∷ l) rest
      by false rest = rest

  found_map : (xs : List A) → is_some (find p (map f xs)) ≡ is_some (find (λ x. p (f x)) xs)
  found_map [] = refl
  found_map (x ∷ xs) = by (p (f x)) (found_map xs)
    where
      by : (b : Bool) → is_some (find p (map f xs)) ≡ is_some (find (λ y. p (f y)) xs) → is_some (cond b (Some (f x)) (find p (map f xs))) ≡ is_some (cond b (Some x) (find (λ y. p (f y)) xs))
      by true rest = refl
      by false rest = rest

reversed_map : {A B : Type 0} (f : A → B) (xs : List A) → map f (reverse xs) ≡ reverse (map f xs)
reversed_map f [] = refl
reversed_map {A} {B} f (x ∷ xs) =
    ap (map f) (reverse-append (x ∷ []) xs) ∙ (map-append f (reverse xs) (x ∷ []) ∙ (ap (λ (l : List B). l ++ f x ∷ []) (reversed_map f xs) ∙ sym (reverse-append (f x ∷ []) (map f xs))))

-- ---- considered entries

considered_map : (prefix : List ℕ) (s : Stat) (es : List IndexEntry) → map (with_stat s) (considered prefix es) ≡ considered prefix (map (with_stat s) es)
considered_map prefix s es =
    by (list_any (is_under prefix) es)
    ∙ (ap (λ (b : Bool). if b then filter (is_under prefix) (map (with_stat s) es) else map (with_stat s) es) (sym (any_map (with_stat s) (is_under prefix) es)))
  where
    by : (b : Bool) → map (with_stat s) (if b then filter (is_under prefix) es else es) ≡ (if b then filter (is_under prefix) (map (with_stat s) es) else map (with_stat s) es)
    by true = sym (filter_map_is (with_stat s) (is_under prefix) es)
    by false = refl

pub considered_differ : (prefix : List ℕ) (new old : List IndexEntry) → DifferInStats new old → DifferInStats (considered prefix new) (considered prefix old)
considered_differ prefix new old differ s = considered_map prefix s new ∙ (ap (considered prefix) (differ s) ∙ sym (considered_map prefix s old))

-- ---- conflicts

module _ (new old : List IndexEntry) (differ : DifferInStats new old) (e : IndexEntry) where
  -- Whether the entry's path has a stage, from its own stage up.
  abbrev has : List IndexEntry → ℕ → Bool
  has es stage = has_stage (stages_from es e) stage

  abbrev is_later : IndexEntry → Bool
  is_later d = same_path d e && nat_le (stage_of e) (stage_of d)

  abbrev is_at : ℕ → IndexEntry → Bool
  is_at stage d = stage_of d == stage

  has_map : (es : List IndexEntry) (stage : ℕ) → has (map (with_stat e.stat) es) stage ≡ has es stage
  has_map es stage =
      ap (λ (l : List IndexEntry). is_some (find (is_at stage) (reverse l))) (filter_map_is (with_stat e.stat) is_later es)
      ∙ (ap (λ (l : List IndexEntry). is_some (find (is_at stage) l)) (sym (reversed_map (with_stat e.stat) (filter is_later es)))
      ∙ found_map (with_stat e.stat) (is_at stage) (reverse (filter is_later es)))

  has_same : (stage : ℕ) → has new stage ≡ has old stage
  has_same stage = sym (has_map new stage) ∙ (ap (λ (l : List IndexEntry). has l stage) (differ e.stat) ∙ has_map old stage)

  same_conflict : conflict_of (stages_from new e) ≡ conflict_of (stages_from old e)
  same_conflict =
      ap (λ (b : Bool). conflict_named b (has new 2) (has new 3)) (has_same 1)
      ∙ (ap (λ (b : Bool). conflict_named (has old 1) b (has new 3)) (has_same 2)
      ∙ ap (λ (b : Bool). conflict_named (has old 1) (has old 2) b) (has_same 3))

-- The letters of a conflict's entries.
shown_conflict : (T U : Type 0) (es : List IndexEntry) (c : Option Conflict)
    → shown_letters {T = T} {U = U} (Ok (option_map (λ k. statuses.Conflict k (map (option_map kept_of) (places_of es))) c)) ≡ Ok (option_map conflict_letters c)
shown_conflict T U es (Some c) = refl
shown_conflict T U es None = refl

-- ---- any entry

module _ {T U : Type 0} where
  -- A result of three cases, of which each shows the same letters.
  by_cases : (skipped unstaged : Bool) (status : EntryStatus T U) (s t c d : Result (Option (EntryStatus T U)) Error)
      → (if skipped then Ok None else (if unstaged then s else c)) ≡ Ok (Some status)
      → (s ≡ Ok (Some status) → shown_letters t ≡ Ok (letters status)) → shown_letters d ≡ shown_letters c
      → shown_letters (if skipped then Ok None else (if unstaged then t else d)) ≡ Ok (letters status)
  by_cases true unstaged status s t c d h kept same = absurd (cc)
  by_cases false true status s t c d h kept same = kept h
  by_cases false false status s t c d h kept same = same ∙ ap shown_letters h

  module _ (q later : Query T U) (selects : SelectsSame q later) (new old : List IndexEntry) (differ : DifferInStats new old) (e : IndexEntry) where
    included_same : later.included ≡ q.included
    included_same = fun_ext (λ path. fun_ext (selects.included path))

    -- Whether an entry is skipped or over, by the paths that are included.
    abbrev is_passed : (List ℕ → Bool → Bool) → List IndexEntry → Bool
    is_passed included es = is_skipped (record q { included = included }) e || is_over (record q { included = included }) es e

    over_map : (es : List IndexEntry) → is_over q (map (with_stat e.stat) es) e ≡ is_over q es e
    over_map es = any_map (with_stat e.stat) (λ d. takes_over q d e) es

    over_same : is_over q new e ≡ is_over q old e
    over_same = sym (over_map new) ∙ (ap (λ (l : List IndexEntry). is_over q l e) (differ e.stat) ∙ over_map old)

    passed_same : is_passed later.included new ≡ is_passed q.included old
    passed_same = ap (λ (included : List ℕ → Bool → Bool). is_passed included new) included_same ∙ ap (λ (b : Bool). is_skipped q e || b) over_same

    -- In the new list, the entry shows its letters again if its own status does.
    pub verdict_shown : (stat : Stat) (status : EntryStatus T U)
        → (status_of q e ≡ Ok (Some status) → shown_letters (status_of later (with_stat stat e)) ≡ Ok (letters status))
        → verdict q old e ≡ Ok (Some status) → shown_letters (verdict later new (with_stat stat e)) ≡ Ok (letters status)
    verdict_shown stat status kept h =
        let before = Ok (conflict_status (stages_from old e)) in
        let after = Ok (conflict_status (stages_from new (with_stat stat e))) in
        ap (λ (b : Bool). shown_letters (if b then Ok None else (if stage_of e == 0 then status_of later (with_stat stat e) else after))) passed_same
        ∙ by_cases (is_passed q.included old) (stage_of e == 0) status (status_of q e) (status_of later (with_stat stat e)) before after h kept
        (shown_conflict T U (stages_from new e) (conflict_of (stages_from new e))
        ∙ (ap (λ (c : Option Conflict). Ok (option_map conflict_letters c)) (same_conflict new old differ e)
        ∙ sym (shown_conflict T U (stages_from old e) (conflict_of (stages_from old e)))))
