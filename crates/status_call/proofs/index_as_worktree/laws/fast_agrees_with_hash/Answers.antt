use Rattle.status_compare.proofs.Agree.{agrees}
use Rattle.status_call.proofs.index_as_worktree.laws.fast_agrees_with_hash.Goals as goal

pub returns : goal.returns
returns c = agrees
