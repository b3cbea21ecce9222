use Rattle.std.proofs.Common.{◌≡◌, ◌++◌, map}
use Rattle.std.specs.Vec.Iter.{into_iter_items}
use Rattle.status_call.specs.RecorderVisits.{visit_of}
use Rattle.status_joined.specs.Keeping.{kept_walked}
use Rattle.status_index.specs.BlobId.{null_id}
use Rattle.status_joined.specs.Items.{tracked, walked}
use Rattle.status_joined.specs.ListItems.{item_of}
use Rattle.status_joined.specs.Lists.{unsorted}
use Rattle.status_joined.proofs.list.unsorted.Given as goal

abbrev pub invariant-loop-record : goal.invariant-loop-record
invariant-loop-record g l =
    map item_of l.list.items ++ map tracked (map visit_of (into_iter_items l.record-iterator)) ≡ map tracked (map visit_of l.fn.records.items)

abbrev pub invariant-loop-node : goal.invariant-loop-node
invariant-loop-node g l =
    map item_of l.list.items ++ map (λ w. walked w (null_id l.kind)) (map kept_walked (into_iter_items l.node-iterator)) ≡ unsorted l.fn.kind (map visit_of l.fn.records.items) (map kept_walked l.fn.kept.items)
