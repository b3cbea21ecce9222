use Rattle.status_call.proofs.LawConflicts.{one_conflict_law}
use Rattle.status_call.proofs.index_as_worktree.laws.one_conflict_a_path.Goals as goal

pub returns : goal.returns
returns g c = λ q. one_conflict_law q
