use Rattle.status_call.proofs.LawRows.{row_of}
use Rattle.status_call.proofs.index_as_worktree.laws.rows_cover.Goals as goal

pub returns : goal.returns
returns g c = λ q e. row_of q e
