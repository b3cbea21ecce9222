use Rattle.std.proofs.Common.{◌≡◌, ◌+◌, length, map}
use Rattle.std.specs.Vec.Iter.{into_iter_items}
use Rattle.status_base.specs.Trees.{empty_tree}
use Rattle.status_profile.specs.Nodes.{node_value}
use Rattle.status_cli.specs.ProfileStatuses.{with_nodes}
use Rattle.status_cli.proofs.status.put_nodes.Given as goal

abbrev pub invariant-loop-path : goal.invariant-loop-path
invariant-loop-path l =
    (with_nodes 0 empty_tree (map node_value l.fn.nodes.items) ≡ with_nodes l.at l.worktree (map node_value (into_iter_items l.path-iterator)))
    × (l.at + length (into_iter_items l.path-iterator) ≡ length l.fn.nodes.items)
