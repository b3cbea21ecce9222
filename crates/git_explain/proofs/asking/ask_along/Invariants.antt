use Rattle.status_base.specs.Sights.{IsOpenBelow}
use Rattle.git_explain.specs.Allowed.{AreCallsAllowed}
use Rattle.git_explain.proofs.asking.ask_along.Given as goal

abbrev pub invariant-loop-at : goal.invariant-loop-at
invariant-loop-at g l =
    IsOpenBelow (g.W.Worktree.may_stat l.worktree.worktree.now) l.path l.at
    × (AreCallsAllowed (g.W.Worktree.may_stat l.worktree.worktree.now) l.initial.calls.items → AreCallsAllowed (g.W.Worktree.may_stat l.worktree.worktree.now) l.calls.items)
