use Rattle.git_status.proofs.Besides.{head_unfound}
use Rattle.git_status.proofs.beside.SearchesFindBeside.find_changes.Goals as goal

pub returns-in-Err-clause-unfound : goal.returns-in-Err-clause-unfound
returns-in-Err-clause-unfound g c = rw c.of_head.ensures (head_unfound c.in-Err.fault)
