use Rattle.std.proofs.Common.{◌∙◌, ◌++◌, ap, append_assoc}
use Rattle.std.specs.List.{flat_map}
use Rattle.status_world.specs.Reports.{report_value}
use Rattle.status_cli.specs.Lines.{run_line, total_line}
use Rattle.status_cli.specs.Replays.{reported_line}
use Rattle.status_cli.proofs.replay.push_numbered.Goals as goal

pub returns-in_ok-push_totals : goal.returns-in_ok-push_totals
returns-in_ok-push_totals c =
    let old = c.args.text.now.items in
    let run = run_line c.args.run in
    let records = flat_map reported_line (report_value c.args.report.now).records in
    let totals = total_line c.args.report.now.outcome in
    rw c.if-counts.true (
    c.in_ok-push_totals.ensures ∙ ap (λ t. t ++ totals) (c.in_ok-push_records.ensures ∙ ap (λ t. t ++ records) c.in_ok-push_run.ensures)
    ∙ append_assoc (old ++ run) records totals ∙ append_assoc old run (records ++ totals)
    )
