-- The lines that are printed are those of the entries that differ.
use Rattle.std.proofs.Common.{◌≡◌, ◌∙◌, ℕ, ◌++◌, List, [], ◌∷◌, map, All, Option, Some, Result, Ok, IfOk, inl, inr, refl, sym, ap, subst, IsTrue}
use Rattle.std.specs.Prelude.{is_some, false, slice_get, option_map, Bool}
use Rattle.std.specs.List.{flat_map}
use Rattle.std.specs.Io.KnownBytes.{Appends}
use Rattle.std.proofs.lemmas.List.Elements.{All-head, All-tail}
use Rattle.std.proofs.lemmas.Option.{slice_get-map}
use Rattle.status_call.specs.Inputs.{settings}
use Rattle.status_call.specs.Query.{Query}
use Rattle.status_call.specs.StatusTheorem.{IsComplete, IsStatusReport}
use Rattle.status_call.specs.Visits.{IsFaithful, Visit, finding_of}
use Rattle.status_call.specs.declared.index_as_worktree.types.Outcome.{Outcome}
use Rattle.status_compare.specs.declared.error.Error.{Error}
use Rattle.status_index.specs.Entries.{index_entry}
use Rattle.status_index.specs.States.{backing_of, entries_of, index_of}
use Rattle.status_index.specs.declared.state.State.{State}
use Rattle.git_status.specs.Besides.{Beside, MayFind, beside_text}
use Rattle.git_status.specs.Differences.{LinesLaw, PrintsBoth, PrintsSeen, difference_rows, entry_row, finding_row}
use Rattle.git_status.specs.Lines.{status_row, visit_row, visit_rows}
use Rattle.std.proofs.Math.Logic.{∥∥₁_map}
use Rattle.status_call.specs.MayReturn.{MayReturn}
use Rattle.status_call.specs.Views.{as_seen}
use Rattle.git_status.specs.Runs.{Asking, IsCommandEnd, IsCommandRun, IsExit, IsStatusRun, printed_text}
use Rattle.git_status.specs.declared.asked.Settings.{Settings}
use Rattle.git_status.specs.declared.answer.Report.{Report}
use Rattle.git_status.specs.declared.lines.LineStyle.{LineStyle}

module _ {T U : Type 0} (index : State) where
  -- the row of a record is that of the entry at its position
  one_row : (v : Visit T U) → IsFaithful (entries_of index) (backing_of index) v → visit_row v ≡ finding_row (index_of index) (finding_of v)
  one_row v faithful =
      let there : slice_get (index_of index) v.entry_index ≡ Some (index_entry (backing_of index) v.entry) =
      slice_get-map (index_entry (backing_of index)) (entries_of index) v.entry_index ∙ ap (option_map (index_entry (backing_of index))) faithful.entry in
      ap (λ path. status_row path v.status) faithful.path ∙ ap (λ e. entry_row e v.status) (sym there)

  all_rows : (vs : List (Visit T U)) → All (IsFaithful (entries_of index) (backing_of index)) vs → visit_rows vs ≡ flat_map (finding_row (index_of index)) (map finding_of vs)
  all_rows [] faithful = refl
  all_rows (v ∷ vs) faithful =
      ap (λ row. row ++ visit_rows vs) (one_row v (All-head (IsFaithful (entries_of index) (backing_of index)) v vs faithful))
      ∙ ap (λ rows. finding_row (index_of index) (finding_of v) ++ rows) (all_rows vs (All-tail (IsFaithful (entries_of index) (backing_of index)) v vs faithful))

  -- those of a whole status
  met_rows : (q : Query T U) (visits : List (Visit T U)) (answer : Result Outcome Error) (o : Outcome) → IsTrue q.modelled → IsStatusReport q index [] answer visits → answer ≡ Ok o → o.interrupted ≡ false
      → visit_rows visits ≡ difference_rows q index
  met_rows q visits answer o modelled met found whole =
      let complete = subst (λ a. IfOk a (λ o. o.interrupted ≡ false → IsComplete q index (map finding_of met.more) o)) found (met.complete modelled) in
      ap visit_rows met.grew ∙ all_rows met.more met.faithful ∙ ap (flat_map (finding_row (index_of index))) (complete whole).records

  printed : (style : LineStyle) (s : Settings) (beside : Beside) (visits : List (Visit T U)) (answer : Result Outcome Error) (old : Option (List ℕ)) (r : Report) (new : Option (List ℕ)) → s.lines ≡ Some style → IsCommandEnd s.lines beside visits answer old (Ok r) new
      → Appends old new (beside_text style beside (visit_rows visits)) × (answer ≡ Ok r.outcome)
  printed style s beside visits answer old r new loud (inl found) = (subst (λ lines. Appends old new (printed_text lines beside visits)) loud found.0, found.1.outcome)
  printed style s beside visits answer old r new loud (inr failed) = absurd failed

  -- those of a query whose results are known
  known_lines : (style : LineStyle) (may_find : MayFind) (q query : Query T U) (may : MayReturn U) (s : Settings) (old : Option (List ℕ)) (r : Report) (new : Option (List ℕ)) → IsTrue q.modelled → s.lines ≡ Some style → (run : IsStatusRun may_find query may index s old (Ok r) new)
      → IsStatusReport q index [] run.answer run.visits → PrintsBoth style run.beside q index old new
  known_lines style may_find q query may s old r new modelled loud run met =
      let ended = printed style s run.beside run.visits run.answer old r new loud run.ended in
      let whole = subst (λ a. IfOk a (λ o. o.interrupted ≡ false)) ended.1 (run.computed.whole (ap is_some loud)) in
      subst (λ rows. Appends old new (beside_text style run.beside rows)) (met_rows q run.visits run.answer r.outcome modelled met ended.1 whole) ended.0

module _ {T U : Type 0} where
  pub lines_law : (a : Asking T U) (bytes : List ℕ) → LinesLaw a bytes
  unfolding IsCommandRun
  lines_law a bytes modelled style loud dirty old new exit =
      let read = exit.2.0 in let asked = settings a.settings.options read.index in let q = a.query read.converting.filter asked in
      let run = exit.2.1 in
      (read, run.beside, run.found, known_lines read.index style a.may_find q q a.may_return a.settings old exit.0 new (modelled read.converting.filter asked) loud run run.computed.met)

  -- by what was seen of each entry
  pub lines_seen : (a : Asking T U) (bytes : List ℕ) (style : LineStyle) → a.settings.lines ≡ Some style → (dirty : Bool) (old new : Option (List ℕ)) → IsExit a bytes dirty old new → PrintsSeen a style bytes old new
  unfolding IsCommandRun
  lines_seen a bytes style loud dirty old new exit =
      let read = exit.2.0 in
      let run = exit.2.1 in
      let q = a.query read.converting.filter (settings a.settings.options read.index) in (
        read,
        run.beside,
        run.found,
        ∥∥₁_map run.computed.seen (λ seen.
            (record { views = seen.views; allowed = seen.allowed }, known_lines read.index style a.may_find (as_seen q seen.views) q a.may_return a.settings old exit.0 new refl loud run seen.report)),
      )
