use Rattle.status_world.proofs.ExactReports.{run_faultless}
use Rattle.status_world.proofs.world.laws.a_run_has_no_fault.Goals as goal

pub returns : goal.returns
returns c = run_faultless
