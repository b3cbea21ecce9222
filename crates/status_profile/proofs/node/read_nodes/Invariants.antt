-- The nodes so far, followed by those of the remaining items, are those of the whole list.
use Rattle.std.proofs.Common.{◌≡◌, drop, map}
use Rattle.serde_json.specs.View.{items_view}
use Rattle.status_format.specs.Reading.{each}
use Rattle.status_stored.proofs.Fronts.{with_front}
use Rattle.status_profile.specs.Nodes.{node_in, node_value}
use Rattle.status_profile.proofs.node.read_nodes.Given as goal

abbrev pub invariant-loop-item : goal.invariant-loop-item
invariant-loop-item l =
    with_front (map node_value l.nodes.items) (each node_in (items_view (drop l.item-index l.items)))
    ≡ each node_in (items_view l.items)
