use Rattle.status_cli.proofs.status.joined.report_joined.Goals as goal

pub returns : goal.returns
returns g c = rw (c.new-objects.ensures, c.joined_options.ensures) at c.index_as_worktree_with_renames.ensures
