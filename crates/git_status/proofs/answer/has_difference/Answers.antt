use Rattle.std.proofs.Common.{map, true, ap, sym, ◌≡◌, ◌∙◌}
use Rattle.std.specs.Prelude.{is_some}
use Rattle.std.proofs.lemmas.List.{get_or-map, length-map}
use Rattle.std.proofs.lemmas.List.Folds.{list_any-from_Any}
use Rattle.status_call.specs.RecorderVisits.{visit_of}
use Rattle.git_status.specs.Runs.{is_difference}
use Rattle.git_status.proofs.Mapped.{some_mapped}
use Rattle.git_status.proofs.answer.has_difference.Goals as goal

pub returns-then-is_some : goal.returns-then-is_some
returns-then-is_some g c =
    let records = c.args.records.now in
    let at = c.loop-record.record-index in
    let one = c.record-item.result in
    let differs : is_difference (visit_of one) ≡ true = ap is_some (sym c.letters.ensures) ∙ some_mapped (λ two. two.now) c.letters.result ∙ sym c.is_some.ensures ∙ c.if-is_some.true in
    sym (list_any-from_Any is_difference (map visit_of records)
    (at, visit_of one, rw (length-map records visit_of) c.loop-record-test.true, get_or-map visit_of records at one (visit_of one) c.loop-record-test.true ∙ ap visit_of (sym c.record-item.is), differs))
