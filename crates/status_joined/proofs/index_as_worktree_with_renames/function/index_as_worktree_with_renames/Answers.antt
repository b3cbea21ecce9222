use Rattle.status_joined.proofs.index_as_worktree_with_renames.function.index_as_worktree_with_renames.Goals as goal

pub returns : goal.returns
returns g c = c.joined_by.ensures
