use Rattle.std.proofs.Common.{rules, ◌≡◌, ◌+◌, [], ◌∷◌, ◌++◌, drop, map, ap, ◌∙◌}
use Rattle.std.proofs.lemmas.List.{map_push}
use Rattle.serde_json.specs.View.{items_view}
use Rattle.status_format.specs.Reading.{each}
use Rattle.status_stored.proofs.Fronts.{one_more, with_front}
use Rattle.status_profile.specs.Nodes.{node_in, node_value}
use Rattle.status_profile.proofs.node.read_nodes.Goals as goal

pub loop-item-preserved : goal.loop-item-preserved
loop-item-preserved c =
    let l = c.loop-item in
    let vs = c.in_ok-items.items.now in
    let old = l.nodes.items in
    let x = c.in_ok-read_node.field-0 in
    let pushed : c.push.new.self.items ≡ old ++ x ∷ [] = search rules in
    let listed : map node_value c.push.new.self.items ≡ map node_value old ++ node_value x ∷ [] = ap (map node_value) pushed ∙ map_push node_value old x in
    ap (λ front. with_front front (each node_in (items_view (drop (l.item-index + 1) vs)))) listed
    ∙ one_more (map node_value old) (node_value x) node_in vs l.item-index c.item-item.result _ c.loop-item-test.true c.item-item.is c.in_ok-read_node.ensures l.invariant
