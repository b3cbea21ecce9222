use Rattle.std.proofs.Common.{◌≤◌, ◌+◌, ◌-◌, length}
use Rattle.status_call.specs.Considered.{part_entries}
use Rattle.status_call.proofs.Bounds.{AreGrowing}
use Rattle.status_call.proofs.index_as_worktree.run_rounds.round_bounds.Given as goal

abbrev pub invariant-loop-at : goal.invariant-loop-at
invariant-loop-at l = record {
  growing : AreGrowing (part_entries l.considered) l.piece_len l.from l.at l.bounds.items;
  few : length l.bounds.items ≤ l.most + 1;
}

abbrev pub decreases-loop-at : goal.decreases-loop-at
decreases-loop-at l = length (part_entries l.considered) - l.at
