use Rattle.std.proofs.Common.{◌+◌, ◌-◌, ◌<◌, ◌≤◌, ℕ, min, length}
use Rattle.status_call.specs.Considered.{part_entries}
use Rattle.status_call.specs.Pieces.{IsCut}
use Rattle.status_call.proofs.index_as_worktree.piece.piece_end.Given as goal

abbrev pub invariant-loop-end : goal.invariant-loop-end
invariant-loop-end l = record {
  more : l.from < l.end;
  within : l.end ≤ length (part_entries l.considered);
  full : min (l.from + l.piece_len) (length (part_entries l.considered)) ≤ l.end;
  tight : (k : ℕ) → l.from + l.piece_len ≤ k → l.from < k → k < l.end → IsCut (part_entries l.considered) k → ⊥;
}

abbrev pub decreases-loop-end : goal.decreases-loop-end
decreases-loop-end l = length (part_entries l.considered) - l.end
