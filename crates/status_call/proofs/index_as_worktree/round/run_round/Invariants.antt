use Rattle.std.proofs.Common.{is_some}
use Rattle.std.specs.Vec.Iter.{into_iter_items}
use Rattle.status_call.specs.Rounds.{bound, last_bound}
use Rattle.status_call.specs.Considered.{part_entries}
use Rattle.status_call.specs.Runs.{IsFaithfulTo}
use Rattle.status_call.proofs.WorkInOrder.{IsMidRound}
use Rattle.status_call.proofs.index_as_worktree.round.run_round.Given as goal

abbrev pub invariant-loop-piece : goal.invariant-loop-piece
invariant-loop-piece g l =
    let visits = g.V.VisitEntry.visits in
    IsMidRound (g.D.Decide.query l.decider) (g.D.Decide.allows l.decider) (is_some l.workers.interrupt) l.considered.start (part_entries l.considered) (IsFaithfulTo l.considered)
    (bound l.bounds 0) (last_bound l.bounds) l.totals (visits l.fn.collector) (visits l.collector) (into_iter_items l.piece-iterator)
