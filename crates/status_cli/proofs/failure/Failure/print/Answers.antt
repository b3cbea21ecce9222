use Rattle.std.proofs.Common.{inl}
use Rattle.status_cli.proofs.failure.Failure.print.Goals as goal

pub returns-in-Worktree : goal.returns-in-Worktree
returns-in-Worktree g c = rw c.in-Worktree.is (inl (rw (c.tree_error_words-words.ensures, c.format.ensures.text) at c.print_parts-in-Worktree.ensures))

pub returns-in-Start : goal.returns-in-Start
returns-in-Start g c = rw c.in-Start.is (inl (rw c.refusal_words.ensures at c.print_parts-in-Start.ensures))
