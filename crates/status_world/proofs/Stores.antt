-- Storing the changes that a run's report asks for stores each entry's verdict.
use Rattle.std.proofs.Common.{◌≡◌, refl, sym, ap, ◌∙◌, ℕ, ◌+◌, ◌<◌, ◌≤◌, arith, true, All, List, [], ◌∷◌, ◌++◌, map, length, Option, Some, None, Result, Ok, Err, append_assoc, length-append}
use Rattle.std.specs.List.{cons_option}
use Rattle.std.proofs.lemmas.List.Elements.{All-nil, All-cons, All-append, All-head, All-tail, filter_map-append}
use Rattle.status_index.specs.Entries.{IndexEntry}
use Rattle.status_compare.specs.declared.error.Error.{Error}
use Rattle.status_call.specs.declared.index_as_worktree.apply.ApplyChange.{ApplyChange}
use Rattle.status_call.specs.declared.index_as_worktree.apply.ApplyChange.TheVariants.{NewStat, SetSizeToZero}
use Rattle.status_call.specs.declared.index_as_worktree.types.Change.TheVariants.{Modification}
use Rattle.status_call.specs.declared.index_as_worktree.types.EntryStatus.TheVariants as statuses
use Rattle.status_call.specs.IndexChanges.{AreInside, applied, change_of, changed_entry, entry_index_of, updated_entry}
use Rattle.status_call.proofs.IndexChanges.{applied-append, change_behind, one_inside}
use Rattle.status_compare.specs.declared.compare.Comparer.{Comparer}
use Rattle.status_world.specs.Reports.{RunStatus, Reported, changes_in}
use Rattle.status_world.specs.StampedWorld.{StampedWorld, reported_by, report_of, stored_verdict, verdict_in}
use Rattle.status_world.proofs.ChangedPaths.{Decide, reports_from}

-- The change that one record asks for.
abbrev pub asked_by : Reported → Option ApplyChange
asked_by r = change_of r.entry_index r.status

-- The change that a status asks for at its entry's position changes that entry.
asked_behind : (s : RunStatus) (done : List IndexEntry) (e : IndexEntry) (es : List IndexEntry)
    → applied (cons_option (change_of (length done) s) []) (done ++ e ∷ es) ≡ done ++ updated_entry (change_of 0 s) e ∷ es
asked_behind (statuses.NeedsUpdate stat) done e es = change_behind (changed_entry (NewStat (length done) stat)) done e es
asked_behind (statuses.Change (Modification x k true)) done e es = change_behind (changed_entry (SetSizeToZero (length done))) done e es
asked_behind _ done e es = refl

module _ (decide : Decide) where
  abbrev stored : IndexEntry → IndexEntry
  stored e = stored_verdict e (decide e)

  -- The changes of one entry's records.
  store_one : (path : List ℕ) (done : List IndexEntry) (e : IndexEntry) (es : List IndexEntry) (v : Result (Option RunStatus) Error)
      → applied (changes_in (reported_by (length done) path v)) (done ++ e ∷ es) ≡ done ++ stored_verdict e v ∷ es
  store_one path done e es (Ok (Some status)) = asked_behind status done e es
  store_one path done e es (Ok None) = refl
  store_one path done e es (Err fault) = refl

  store_from : (done rest : List IndexEntry) → applied (changes_in (reports_from decide (length done) rest)) (done ++ rest) ≡ done ++ map stored rest
  store_from done [] = refl
  store_from done (e ∷ es) =
      let next : List IndexEntry = done ++ stored e ∷ [] in
      let here : List Reported = reported_by (length done) e.path (decide e) in
      let later : List Reported = reports_from decide (length done + 1) es in
      let long : length done + 1 ≡ length next = sym (length-append done (stored e ∷ [])) in
      ap (λ (cs : List ApplyChange). applied cs (done ++ e ∷ es)) (filter_map-append asked_by here later)
      ∙ applied-append (changes_in here) (changes_in later) (done ++ e ∷ es)
      ∙ ap (applied (changes_in later)) (store_one e.path done e es (decide e) ∙ sym (append_assoc done (stored e ∷ []) es))
      ∙ ap (λ n. applied (changes_in (reports_from decide n es)) (next ++ es)) long
      ∙ store_from next es
      ∙ append_assoc done (stored e ∷ []) (map stored es)

-- The changes that a run's report asks for, stored in order, leave the entries that a run leaves.
pub store_report : (w : StampedWorld) (c : Comparer) → applied (changes_in (report_of w c).records) w.entries ≡ map (λ e. stored_verdict e (verdict_in w c e)) w.entries
store_report w c = store_from (verdict_in w c) [] w.entries

-- Each record is of an entry of the index.
reports_inside : (decide : Decide) (n : ℕ) (es : List IndexEntry) (long : ℕ) → n + length es ≤ long → All (λ r. r.entry_index < long) (reports_from decide n es)
reports_inside decide n [] long within = All-nil (λ (r : Reported). r.entry_index < long)
reports_inside decide n (e ∷ es) long within =
    All-append (λ (r : Reported). r.entry_index < long) (reported_by n e.path (decide e)) (reports_from decide (n + 1) es)
    (one (decide e)) (reports_inside decide (n + 1) es long (omega arith))
  where
    one : (v : Result (Option RunStatus) Error) → All (λ (r : Reported). r.entry_index < long) (reported_by n e.path v)
    one (Ok (Some status)) = All-cons (λ (r : Reported). r.entry_index < long) (record { entry_index = n; path = e.path; status = status }) [] (omega arith) (All-nil (λ (r : Reported). r.entry_index < long))
    one (Ok None) = All-nil (λ (r : Reported). r.entry_index < long)
    one (Err fault) = All-nil (λ (r : Reported). r.entry_index < long)

asked_inside : (rs : List Reported) (es : List IndexEntry) → All (λ r. r.entry_index < length es) rs → AreInside (changes_in rs) es
asked_inside [] es all = All-nil (λ (c : ApplyChange). entry_index_of c < length es)
asked_inside (r ∷ rs) es all =
    one_inside r.entry_index r.status (asked_by r) refl (changes_in rs) es (All-head (λ (x : Reported). x.entry_index < length es) r rs all)
    (asked_inside rs es (All-tail (λ (x : Reported). x.entry_index < length es) r rs all))

-- So each change is of an entry of the index.
pub report_inside : (w : StampedWorld) (c : Comparer) → AreInside (changes_in (report_of w c).records) w.entries
report_inside w c = asked_inside (report_of w c).records w.entries (reports_inside (verdict_in w c) 0 w.entries (length w.entries) (omega arith))
