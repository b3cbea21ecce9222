use Rattle.status_call.proofs.LawRows.{one_row}
use Rattle.status_call.proofs.index_as_worktree.laws.rows_exclude.Goals as goal

pub returns : goal.returns
returns g c = λ q e. one_row q e
