use Rattle.status_call.proofs.index_as_worktree.function.index_as_worktree_with_defaults.Goals as goal

pub returns-clause-all : goal.returns-clause-all
returns-clause-all g c = rw (c.new-objects.ensures) at (c.index_as_worktree.ensures.all)

pub returns-clause-alone : goal.returns-clause-alone
returns-clause-alone g c = rw (c.new-objects.ensures) at (c.index_as_worktree.ensures.alone)

pub returns-clause-seen : goal.returns-clause-seen
returns-clause-seen g c = rw (c.new-objects.ensures) at (c.index_as_worktree.ensures.seen)
