use Rattle.status_call.proofs.LawRecords.{ascend_law}
use Rattle.status_call.proofs.index_as_worktree.laws.records_ascend.Goals as goal

pub returns : goal.returns
returns g c = λ q. ascend_law q
