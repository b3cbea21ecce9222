use Rattle.status_cli.specs.Lines.{visit_line}
use Rattle.std.proofs.Common.{refl, subst, sym}
use Rattle.std.specs.Prelude.{vec_items}
use Rattle.status_index.specs.States.{index_of}
use Rattle.status_call.specs.IndexChanges.{AreInside}
use Rattle.status_call.specs.RecorderVisits.{visit_of, visits_of}
use Rattle.status_call.proofs.IndexChanges.{status_inside}
use Rattle.status_cli.specs.Statuses.{answered, closing, visit_lines}
use Rattle.status_cli.proofs.Commands.{printed_failed}
use Rattle.status_cli.proofs.Printed.{memory_unprinted, printed_status, ended_after, ended_early, ended_failed, ended_then, values_begun, values_printed}
use Rattle.status_cli.proofs.status.inputs.ProfileStatus.print_plain.Goals as goal

pub returns-in-Returned-clause-inside : goal.returns-in-Returned-clause-inside
returns-in-Returned-clause-inside g c =
    let inside = status_inside _ _ _ _ _ c.index_as_worktree_with_defaults-answer.ensures.all c.new-recorder.ensures in
    subst (λ changes. AreInside changes (index_of c.args.self.request.index.now)) (sym c.in_ok-changes-in-Returned.ensures) inside

pub returns-in_err-print_lines-clause-printed : goal.returns-in_err-print_lines-clause-printed
returns-in_err-print_lines-clause-printed g c =
    let call = c.index_as_worktree_with_defaults-answer in
    let visits = visits_of call.new.collector in
    let failed = c.from_residual in
    printed_failed vec_items c.args.self.request.options.comparer _ _ _ _ _ _ visits call.result _ _ failed.result _ failed.ensures.1 c.new-recorder.ensures call.ensures.all call.ensures.uninterrupted refl call.ensures.alone
    (ended_early (visit_lines visits) (closing c.args.self.request.options.counts (answered call.result)) (answered call.result) _ _ _ failed.result failed.ensures.1
    (values_begun visit_line visit_of call.new.collector.records.items _ _ (rw c.as_slice.ensures.value at c.in_err-print_lines.ensures.0)) c.in_err-print_lines.ensures.1)

pub returns-in_err-print_closing-clause-printed : goal.returns-in_err-print_closing-clause-printed
returns-in_err-print_closing-clause-printed g c =
    let call = c.index_as_worktree_with_defaults-answer in
    let visits = visits_of call.new.collector in
    let failed = c.from_residual-in_err-print_closing in
    printed_failed vec_items c.args.self.request.options.comparer _ _ _ _ _ _ visits call.result _ _ failed.result _ failed.ensures.1 c.new-recorder.ensures call.ensures.all call.ensures.uninterrupted refl call.ensures.alone
    (ended_failed Unit _ _ _ _ _ failed.result failed.ensures.1
    (ended_after (visit_lines visits) (closing c.args.self.request.options.counts (answered call.result)) (answered call.result) _ _ _ _
    (values_printed visit_line visit_of call.new.collector.records.items _ _ (rw c.as_slice.ensures.value at c.in_ok-print_lines.ensures)) (rw (c.in_err-print_closing.was, c.with_failure.ensures) at c.print_closing.ensures)))

pub returns-in_err-changes-in-Returned-clause-printed : goal.returns-in_err-changes-in-Returned-clause-printed
returns-in_err-changes-in-Returned-clause-printed g c =
    let call = c.index_as_worktree_with_defaults-answer in
    let visits = visits_of call.new.collector in
    let failed = c.from_residual-in_err-changes-in-Returned in
    printed_failed vec_items c.args.self.request.options.comparer _ _ _ _ _ _ visits call.result _ _ failed.result _ failed.ensures.1 c.new-recorder.ensures call.ensures.all call.ensures.uninterrupted refl call.ensures.alone
    (ended_then Unit _ _ _ _ c.in_ok-print_closing.field-0 failed.result (memory_unprinted _ failed.ensures.1)
    (ended_after (visit_lines visits) (closing c.args.self.request.options.counts (answered call.result)) (answered call.result) _ _ _ _
    (values_printed visit_line visit_of call.new.collector.records.items _ _ (rw c.as_slice.ensures.value at c.in_ok-print_lines.ensures)) (rw (c.in_ok-print_closing.was, c.with_failure.ensures) at c.print_closing.ensures)))

pub returns-in-Returned-clause-printed : goal.returns-in-Returned-clause-printed
returns-in-Returned-clause-printed g c =
    let call = c.index_as_worktree_with_defaults-answer in
    let visits = visits_of call.new.collector in
    printed_status c.args.self.request.options.comparer _ _ _ _ _ _ visits call.result _ _ _ c.new-recorder.ensures call.ensures.all call.ensures.uninterrupted refl call.ensures.alone
    (ended_then Unit _ _ _ _ c.in_ok-print_closing.field-0 _ tt
    (ended_after (visit_lines visits) (closing c.args.self.request.options.counts (answered call.result)) (answered call.result) _ _ _ _
    (values_printed visit_line visit_of call.new.collector.records.items _ _ (rw c.as_slice.ensures.value at c.in_ok-print_lines.ensures)) (rw (c.in_ok-print_closing.was, c.with_failure.ensures) at c.print_closing.ensures)))
    (rw c.in-Returned.is c.in_ok-changes-in-Returned.ensures)

pub returns-clause-printed : goal.returns-clause-printed
returns-clause-printed g c =
    let call = c.index_as_worktree_with_defaults-answer in
    let visits = visits_of call.new.collector in
    printed_status c.args.self.request.options.comparer _ _ _ _ _ _ visits call.result _ _ _ c.new-recorder.ensures call.ensures.all call.ensures.uninterrupted refl call.ensures.alone
    (ended_then Unit _ _ _ _ c.in_ok-print_closing.field-0 _ tt
    (ended_after (visit_lines visits) (closing c.args.self.request.options.counts (answered call.result)) (answered call.result) _ _ _ _
    (values_printed visit_line visit_of call.new.collector.records.items _ _ (rw c.as_slice.ensures.value at c.in_ok-print_lines.ensures)) (rw (c.in_ok-print_closing.was, c.with_failure.ensures) at c.print_closing.ensures)))
    (rw c.in-Dropped.is c.new.ensures.items)
