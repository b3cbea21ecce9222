use Rattle.status_call.proofs.LawChanges.{modification_law}
use Rattle.status_call.proofs.index_as_worktree.laws.modification_has_a_change.Goals as goal

pub returns : goal.returns
returns g c = λ q. modification_law q
