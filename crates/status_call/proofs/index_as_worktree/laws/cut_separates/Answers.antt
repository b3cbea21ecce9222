use Rattle.status_call.proofs.LawCuts.{cut_law}
use Rattle.status_call.proofs.index_as_worktree.laws.cut_separates.Goals as goal

pub returns : goal.returns
returns g c = λ q. cut_law q
