use Rattle.std.proofs.Common.{codes}
use Rattle.text_output.proofs.Begun.{written_begun}
use Rattle.git_status.proofs.output.print_failure.Goals as goal

pub returns-in-Err-clause-line : goal.returns-in-Err-clause-line
returns-in-Err-clause-line g c = (codes "out of memory", written_begun _ _ c.print_all-in-Err.result _ c.print_all-in-Err.ensures)
