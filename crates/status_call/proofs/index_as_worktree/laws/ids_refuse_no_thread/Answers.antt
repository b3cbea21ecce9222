use Rattle.status_call.proofs.NoThread.{ids_law}
use Rattle.status_call.proofs.index_as_worktree.laws.ids_refuse_no_thread.Goals as goal

pub returns : goal.returns
returns g c = λ q. ids_law q
