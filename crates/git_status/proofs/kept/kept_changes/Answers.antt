use Rattle.std.proofs.Common.{rules, ◌≡◌, ◌∙◌, ◌+◌, ◌++◌, ◌∷◌, [], map, take, not, false, true, None, sym, ap}
use Rattle.std.specs.List.{list_any}
use Rattle.std.proofs.lemmas.List.{map_push, take_more}
use Rattle.git_attributes.specs.Views.{attributes_view}
use Rattle.status_call.specs.RecorderVisits.{visit_of}
use Rattle.status_call.proofs.IndexChanges.{asked}
use Rattle.git_status.specs.Kept.{Asks, is_left_out, kept_changes}
use Rattle.git_status.proofs.LeftOut.{all_more, change_more, none_more, not_all, out_more}
use Rattle.git_status.proofs.kept.kept_changes.Goals as goal
use Rattle.git_status.proofs.kept.kept_changes.Goals.{then-branch, else-branch+in-Some+in_ok-push, else-branch+in_default}

pub loop-record-preserved : goal.loop-record-preserved
loop-record-preserved g c =
    let said : Asks = (attributes_view c.args.attributes.now, c.args.configured) in
    let records = c.args.records.now in
    let at = c.loop-record.record-index in
    let item = c.record-item.result in
    let before = map visit_of (take at records) in
    let so_far = c.loop-record.invariant in
    let mapped : map visit_of (take (at + 1) records) ≡ before ++ visit_of item ∷ [] =
    ap (map visit_of) (take_more records at item c.loop-record-test.true ∙ ap (λ d. take at records ++ d ∷ []) (sym c.record-item.is)) ∙ map_push visit_of (take at records) item in
    let out = c.in_ok-is_left_out.ensures in
    elim c.if-branch.branch [
      | then-branch w ↦
          let left : is_left_out said (visit_of item) ≡ true = sym out ∙ w.if-branch.true in
          record {
            changes = ap (λ v. v.items) w.changes-is ∙ so_far.changes ∙ sym (out_more said before (visit_of item) left) ∙ ap (kept_changes said) (sym mapped);
            all = w.are_all-is ∙ sym (not_all said before (visit_of item) left) ∙ ap (λ vs. not (list_any (is_left_out said) vs)) (sym mapped);
          }
      | else-branch+in-Some+in_ok-push w ↦
          let kept : is_left_out said (visit_of item) ≡ false = sym out ∙ w.if-branch.false in
          record {
            changes = ap (λ v. v.items) w.changes-is ∙ w.in_ok-push.ensures.items ∙ ap (λ l. l ++ w.in-Some.change ∷ []) so_far.changes
                ∙ sym (change_more said before (visit_of item) w.in-Some.change kept (sym w.apply_change.ensures ∙ w.in-Some.is)) ∙ ap (kept_changes said) (sym mapped);
            all = w.are_all-is ∙ so_far.all ∙ sym (all_more said before (visit_of item) kept) ∙ ap (λ vs. not (list_any (is_left_out said) vs)) (sym mapped);
          }
      | else-branch+in_default w ↦
          let kept : is_left_out said (visit_of item) ≡ false = sym out ∙ w.if-branch.false in
          let none : asked (visit_of item) ≡ None = search rules in
          record {
            changes = ap (λ v. v.items) w.changes-is ∙ so_far.changes ∙ sym (none_more said before (visit_of item) kept none) ∙ ap (kept_changes said) (sym mapped);
            all = w.are_all-is ∙ so_far.all ∙ sym (all_more said before (visit_of item) kept) ∙ ap (λ vs. not (list_any (is_left_out said) vs)) (sym mapped);
          }
    ]
