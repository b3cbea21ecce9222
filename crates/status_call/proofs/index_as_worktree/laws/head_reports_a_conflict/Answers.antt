use Rattle.status_call.proofs.LawConflicts.{head_law}
use Rattle.status_call.proofs.index_as_worktree.laws.head_reports_a_conflict.Goals as goal

pub returns : goal.returns
returns g c = λ q. head_law q
