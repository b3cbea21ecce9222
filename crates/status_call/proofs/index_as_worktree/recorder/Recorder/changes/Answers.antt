use Rattle.std.proofs.Common.{rules, ◌≡◌, sym, ap, subst, ◌∙◌, ◌+◌, ◌++◌, ◌∷◌, [], List, map, take, None}
use Rattle.std.proofs.lemmas.List.{take_more, map_push}
use Rattle.status_call.specs.declared.index_as_worktree.apply.ApplyChange.{ApplyChange}
use Rattle.status_call.specs.IndexChanges.{changes_of}
use Rattle.status_call.specs.RecorderVisits.{visit_of}
use Rattle.status_call.proofs.IndexChanges.{asked, kept_some, kept_none}
use Rattle.status_call.proofs.index_as_worktree.recorder.Recorder.changes.Goals as goal
use Rattle.status_call.proofs.index_as_worktree.recorder.Recorder.changes.Goals.{in-Some+in_ok-push, in_default}

pub loop-record-preserved : goal.loop-record-preserved
loop-record-preserved g c =
    let items = c.args.self.now.records.items in
    let at = c.loop-record.record-index in
    let item = c.record-item.result in
    let more : take (at + 1) items ≡ take at items ++ item ∷ [] =
    subst (λ l. take (at + 1) l ≡ take at l ++ item ∷ []) c.deref-record-items.ensures.value
    (take_more _ at item c.loop-record-test.true ∙ ap (λ d. take at c.deref-record-items.result.now ++ d ∷ []) (sym c.record-item.is)) in
    let mapped : map visit_of (take (at + 1) items) ≡ map visit_of (take at items) ++ visit_of item ∷ [] = ap (map visit_of) more ∙ map_push visit_of (take at items) item in
    elim c.match-apply_change.branch [
      | in-Some+in_ok-push w ↦
          ap (λ v. v.items) w.changes-is
          ∙ w.in_ok-push.ensures.items
          ∙ ap (λ (l : List ApplyChange). l ++ w.in-Some.change ∷ []) c.loop-record.invariant
          ∙ sym (kept_some asked (map visit_of (take at items)) (visit_of item) w.in-Some.change (sym c.apply_change.ensures ∙ w.in-Some.is))
          ∙ ap changes_of (sym mapped)
      | in_default w ↦
          let none : asked (visit_of item) ≡ None = search rules in
          ap (λ v. v.items) w.changes-is
          ∙ c.loop-record.invariant
          ∙ sym (kept_none asked (map visit_of (take at items)) (visit_of item) none)
          ∙ ap changes_of (sym mapped)
    ]
