use Rattle.git_status.proofs.Founds.{reported_file, unreported_file}
use Rattle.git_status.proofs.dirty.print_file.Goals as goal

pub returns-in_err-report : goal.returns-in_err-report
returns-in_err-report g c =
    let read = c.args.read.now in
    let file = read.file in
    unreported_file _ read.bytes.now _ file.state file.version file.extensions.now c.requires.file c.requires.time _ c.from_residual.result _
    (rw c.in_err-report.was at c.print_index.ensures) c.from_residual.ensures.1

pub returns : goal.returns
returns g c =
    let read = c.args.read.now in
    let file = read.file in
    reported_file _ read.bytes.now _ file.state file.version file.extensions.now c.requires.file c.requires.time c.in_ok-report.field-0 _
    (rw c.in_ok-report.was at c.print_index.ensures)
