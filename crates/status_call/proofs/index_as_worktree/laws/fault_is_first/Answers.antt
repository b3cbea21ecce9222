use Rattle.status_call.proofs.LawRecords.{fault_law}
use Rattle.status_call.proofs.index_as_worktree.laws.fault_is_first.Goals as goal

pub returns : goal.returns
returns g c = λ q. fault_law q
