use Rattle.std.proofs.Common.{map}
use Rattle.std.specs.Vec.Iter.{into_iter_items}
use Rattle.status_rewrites.specs.declared.rewrites.Rewritten.TheVariants.{Alone}
use Rattle.status_joined.specs.ListItems.{item_of}
use Rattle.status_joined.proofs.Feeding.{IsReportedSoFar}
use Rattle.status_joined.proofs.index_as_worktree_with_renames.recorder.feed_items.Given as goal

abbrev pub invariant-loop-item : goal.invariant-loop-item
invariant-loop-item g l =
    let visits = g.V.VisitEntry.visits in
    IsReportedSoFar (map Alone (map item_of l.fn.items.items)) (visits l.initial.collector) (visits l.collector) (map Alone (map item_of (into_iter_items l.item-iterator)))
