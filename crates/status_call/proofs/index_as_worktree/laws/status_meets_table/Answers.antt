use Rattle.status_call.proofs.LawTable.{status_table}
use Rattle.status_call.proofs.index_as_worktree.laws.status_meets_table.Goals as goal

pub returns : goal.returns
returns g c = λ q e. status_table q e
