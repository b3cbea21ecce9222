use Rattle.std.proofs.Common.{◌≤◌, ◌+◌, ◌-◌, length, IsTrue}
use Rattle.status_index.specs.Content.{saturate}
use Rattle.status_base.specs.Paths.{directories_below}
use Rattle.status_base.specs.CheckState.{IsClearBelow}
use Rattle.status_base.specs.Sights.{IsOpenBelow}
use Rattle.status_base.proofs.stack.barrier.first_barrier.Given as goal

-- no directory passed so far is a link or has a fault
abbrev pub invariant-loop-at : goal.invariant-loop-at
invariant-loop-at g l = record {
  clear : IsTrue (g.W.Worktree.modelled l.worktree) → IsClearBelow (g.W.Worktree.lstat_of l.worktree) l.path l.from → IsClearBelow (g.W.Worktree.lstat_of l.worktree) l.path l.at;
  «open» : IsOpenBelow (g.W.Worktree.may_stat l.worktree) l.path l.from → IsOpenBelow (g.W.Worktree.may_stat l.worktree) l.path l.at;
  within : l.at ≤ l.from + (length l.path - l.from);
  looks : l.initial.looks ≤ l.looks;
  few : l.looks ≤ l.initial.looks + (length (directories_below l.path l.at) - length (directories_below l.path l.from));
  counted : saturate (l.initial.looks + (length (directories_below l.path l.at) - length (directories_below l.path l.from))) ≤ l.looks;
}
