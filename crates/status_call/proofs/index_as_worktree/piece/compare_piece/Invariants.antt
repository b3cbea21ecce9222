use Rattle.std.proofs.Common.{◌≡◌, ◌-◌}
use Rattle.status_call.specs.Considered.{part_entries}
use Rattle.status_call.specs.Views.{SeesWithin}
use Rattle.status_call.proofs.Pieces.{IsWorking}
use Rattle.status_call.proofs.index_as_worktree.piece.compare_piece.Given as goal

-- The entries before `at` are done.
abbrev pub invariant-loop-at : goal.invariant-loop-at
invariant-loop-at g l = record {
  working : IsWorking (g.D.Decide.query l.fn.decider) (g.D.Decide.allows l.fn.decider) l.considered.start (part_entries l.considered) l.range.start l.range.end l.at l.findings.items l.totals;
  same : g.D.Decide.query l.decider ≡ g.D.Decide.query l.fn.decider;
  within : SeesWithin (g.D.Decide.allows l.decider) (g.D.Decide.allows l.fn.decider);
}

abbrev pub decreases-loop-at : goal.decreases-loop-at
decreases-loop-at g l = l.range.end - l.at
