use Rattle.git_status.proofs.Besides.{folders_unfound}
use Rattle.git_status.proofs.beside.SearchesFindBeside.find_others.Goals as goal

pub returns-in-Err-clause-unfound : goal.returns-in-Err-clause-unfound
returns-in-Err-clause-unfound g c = rw c.of_folders.ensures (folders_unfound c.in-Err.fault)
