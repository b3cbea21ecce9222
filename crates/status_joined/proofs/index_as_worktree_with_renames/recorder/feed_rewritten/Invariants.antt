use Rattle.std.proofs.Common.{map}
use Rattle.std.specs.Vec.Iter.{into_iter_items}
use Rattle.status_rewrites.specs.Entries.{map_rewritten}
use Rattle.status_joined.specs.ListItems.{item_of}
use Rattle.status_joined.proofs.Feeding.{IsReportedSoFar}
use Rattle.status_joined.proofs.index_as_worktree_with_renames.recorder.feed_rewritten.Given as goal

abbrev pub invariant-loop-entry : goal.invariant-loop-entry
invariant-loop-entry g l =
    let visits = g.V.VisitEntry.visits in
    IsReportedSoFar (map (map_rewritten item_of) l.fn.entries.items) (visits l.initial.collector) (visits l.collector) (map (map_rewritten item_of) (into_iter_items l.entry-iterator))
