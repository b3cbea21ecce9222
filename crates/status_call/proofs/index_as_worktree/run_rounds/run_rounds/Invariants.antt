use Rattle.std.proofs.Common.{◌≤◌, ◌<◌, ◌-◌, ◌^◌, length}
use Rattle.status_call.specs.Pieces.{IsCut}
use Rattle.status_call.specs.Considered.{part_entries}
use Rattle.status_call.specs.Runs.{IsFaithfulTo}
use Rattle.status_call.specs.WorkInOrder.{IsWorkSoFar}
use Rattle.status_call.proofs.index_as_worktree.run_rounds.run_rounds.Given as goal

abbrev pub invariant-loop-at : goal.invariant-loop-at
invariant-loop-at g l =
    let visits = g.V.VisitEntry.visits in
    record {
      way : IsWorkSoFar (g.D.Decide.query l.decider) (g.D.Decide.allows l.decider) l.considered.start (part_entries l.considered) 0 (IsFaithfulTo l.considered) l.at l.totals (visits l.initial.collector) (visits l.collector);
      cut : IsCut (part_entries l.considered) l.at;
      inside : l.at ≤ length (part_entries l.considered);
      some : 0 < l.most_pieces;
      few : l.most_pieces ≤ 2 ^ 18;
    }

abbrev pub decreases-loop-at : goal.decreases-loop-at
decreases-loop-at g l = length (part_entries l.considered) - l.at
