use Rattle.status_cli.proofs.Printed.{fault_begun}
use Rattle.status_cli.proofs.failure.Failure.report.Goals as goal

pub returns-clause-line : goal.returns-clause-line
returns-clause-line g c = fault_begun _ _ _ _ c.print.result c.print.ensures
