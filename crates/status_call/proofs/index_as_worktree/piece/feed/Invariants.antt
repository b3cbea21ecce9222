use Rattle.std.proofs.Common.{◌≡◌, ◌++◌}
use Rattle.std.specs.Vec.Iter.{into_iter_items}
use Rattle.status_call.specs.Runs.{IsFaithfulTo}
use Rattle.status_call.specs.Reporting.{Reports}
use Rattle.status_call.proofs.index_as_worktree.piece.feed.Given as goal

abbrev pub invariant-loop-finding : goal.invariant-loop-finding
invariant-loop-finding g l =
    let visits = g.V.VisitEntry.visits in
    record {
      reported : Reports (IsFaithfulTo l.considered) l.yielded (visits l.initial.collector) (visits l.collector);
      rest : l.yielded ++ into_iter_items l.finding-iterator ≡ l.fn.findings.items;
    }
