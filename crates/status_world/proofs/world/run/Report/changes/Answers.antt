use Rattle.std.proofs.Common.{rules, ◌≡◌, refl, sym, ap, subst, ◌∙◌, ◌<◌, ◌+◌, ◌++◌, ◌∷◌, [], ℕ, List, length, map, take, Some, None}
use Rattle.std.proofs.lemmas.List.{take_more, map_push}
use Rattle.status_call.specs.declared.index_as_worktree.apply.ApplyChange.{ApplyChange}
use Rattle.status_call.proofs.IndexChanges.{kept_some, kept_none}
use Rattle.status_world.specs.Reports.{changes_in, reported_value}
use Rattle.status_world.proofs.Stores.{asked_by}
use Rattle.status_world.proofs.world.run.Report.changes.Goals as goal
use Rattle.status_world.proofs.world.run.Report.changes.Goals.{in-Some+in_ok-push, in_default}

pub loop-record-preserved : goal.loop-record-preserved
loop-record-preserved c =
    let items = c.args.self.now.records.items in
    let at = c.loop-record.record-index in
    let item = c.record-item.result in
    let more : take (at + 1) items ≡ take at items ++ item ∷ [] =
    subst (λ l. take (at + 1) l ≡ take at l ++ item ∷ []) c.deref-record-items.ensures.value
    (take_more _ at item c.loop-record-test.true ∙ ap (λ d. take at c.deref-record-items.result.now ++ d ∷ []) (sym c.record-item.is)) in
    let mapped : map reported_value (take (at + 1) items) ≡ map reported_value (take at items) ++ reported_value item ∷ [] =
    ap (map reported_value) more ∙ map_push reported_value (take at items) item in
    elim c.match-apply_change.branch [
      | in-Some+in_ok-push w ↦
          ap (λ v. v.items) w.changes-is
          ∙ w.in_ok-push.ensures.items
          ∙ ap (λ (l : List ApplyChange). l ++ w.in-Some.change ∷ []) c.loop-record.invariant
          ∙ sym (kept_some asked_by (map reported_value (take at items)) (reported_value item) w.in-Some.change (sym c.apply_change.ensures ∙ w.in-Some.is))
          ∙ ap changes_in (sym mapped)
      | in_default w ↦
          let none : asked_by (reported_value item) ≡ None = search rules in
          ap (λ v. v.items) w.changes-is
          ∙ c.loop-record.invariant
          ∙ sym (kept_none asked_by (map reported_value (take at items)) (reported_value item) none)
          ∙ ap changes_in (sym mapped)
    ]
