use Rattle.git_explain.proofs.explainer.Explainer.status_by.Goals as goal

pub returns-in_default-clause-status : goal.returns-in_default-clause-status
returns-in_default-clause-status g c = rw (c.new.ensures, c.filter.ensures, c.as_bytes.ensures) at c.index_as_worktree_without_threads-answer.ensures.all
