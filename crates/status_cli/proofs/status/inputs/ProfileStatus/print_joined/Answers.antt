use Rattle.status_joined.specs.Entries.{reported_entry}
use Rattle.status_cli.specs.Lines.{entry_line}
use Rattle.status_joined.specs.RecorderItems.{reported_of_recorder}
use Rattle.status_cli.specs.Statuses.{closing, entry_lines, joined_answered}
use Rattle.status_cli.proofs.Printed.{printed_joined, ended_after, ended_early, values_begun, values_printed}
use Rattle.status_cli.proofs.Totals.{skips_fit}
use Rattle.status_cli.proofs.status.inputs.ProfileStatus.print_joined.Goals as goal

pub print_closing-requires : goal.print_closing-requires
print_closing-requires g c = rw c.with_failure.ensures (skips_fit _ _ _ _ _ _ _ _ _ _ c.report_joined-answer.result c.report_joined-answer.ensures)

pub returns-in_err-print_lines : goal.returns-in_err-print_lines
returns-in_err-print_lines g c =
    let call = c.report_joined-answer in
    let entries = reported_of_recorder call.new.collector in
    printed_joined _ _ _ _ _ entries call.result _ _ _ c.new-recorder.ensures call.ensures
    (ended_early (entry_lines entries) (closing c.args.self.request.options.counts (joined_answered call.result)) (joined_answered call.result) _ _ _ c.from_residual.result c.from_residual.ensures.1
    (values_begun entry_line reported_entry call.new.collector.records.items _ _ (rw c.as_slice.ensures.value at c.in_err-print_lines.ensures.0)) c.in_err-print_lines.ensures.1)

pub returns : goal.returns
returns g c =
    let call = c.report_joined-answer in
    let entries = reported_of_recorder call.new.collector in
    printed_joined _ _ _ _ _ entries call.result _ _ _ c.new-recorder.ensures call.ensures
    (ended_after (entry_lines entries) (closing c.args.self.request.options.counts (joined_answered call.result)) (joined_answered call.result) _ _ _ _
    (values_printed entry_line reported_entry call.new.collector.records.items _ _ (rw c.as_slice.ensures.value at c.in_ok-print_lines.ensures)) (rw c.with_failure.ensures at c.print_closing.ensures))
