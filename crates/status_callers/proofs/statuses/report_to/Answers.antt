use Rattle.status_call.proofs.IndexChanges.{status_inside}
use Rattle.status_callers.proofs.statuses.report_to.Goals as goal

pub returns-clause-inside : goal.returns-clause-inside
returns-clause-inside g c = λ none. status_inside _ _ _ _ _ c.index_as_worktree.ensures.all none
