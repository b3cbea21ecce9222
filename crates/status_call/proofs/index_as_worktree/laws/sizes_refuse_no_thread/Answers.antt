use Rattle.status_call.proofs.NoThread.{sizes_law}
use Rattle.status_call.proofs.index_as_worktree.laws.sizes_refuse_no_thread.Goals as goal

pub returns : goal.returns
returns g c = λ q. sizes_law q
