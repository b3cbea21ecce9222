use Rattle.status_call.proofs.LawChanges.{unread_law}
use Rattle.status_call.proofs.index_as_worktree.laws.directories_are_not_read.Goals as goal

pub returns : goal.returns
returns g c = λ q. unread_law q
