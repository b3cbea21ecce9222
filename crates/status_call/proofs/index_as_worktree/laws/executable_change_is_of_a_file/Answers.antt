use Rattle.status_call.proofs.LawChanges.{executable_law}
use Rattle.status_call.proofs.index_as_worktree.laws.executable_change_is_of_a_file.Goals as goal

pub returns : goal.returns
returns g c = λ q. executable_law q
