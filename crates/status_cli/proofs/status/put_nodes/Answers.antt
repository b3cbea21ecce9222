use Rattle.std.proofs.Common.{◌≡◌, ◌+◌, length, ◌∷◌, Ok, Err, [], refl, map, ap, ◌∙◌, arith}
use Rattle.std.proofs.lemmas.List.{nil_from_length}
use Rattle.std.specs.Vec.Iter.{into_iter_items}
use Rattle.bstr.specs.Owned.{bstring_bytes}
use Rattle.bstr.specs.declared.bstring.BString.{BString}
use Rattle.status_base.specs.Nodes.{IsPut, placed_of}
use Rattle.status_base.specs.declared.worktree.node.Node.{Node}
use Rattle.status_profile.specs.Nodes.{node_value}
use Rattle.status_cli.specs.ProfileStatuses.{with_nodes}
use Rattle.status_cli.proofs.NodesPut.{with_nodes_next, nodes_refused}
use Rattle.status_cli.proofs.status.put_nodes.Goals as goal

pub loop-path-init : goal.loop-path-init
loop-path-init c = rw (c.into_iter-path-iterator.ensures.into_iter_gives.0, c.new-worktree.ensures) (refl, omega arith)

pub loop-path-preserved : goal.loop-path-preserved
loop-path-preserved c =
    let x : BString × Node = (c.in-Some.path, c.in-Some.node) in
    let tree = c.loop-path.worktree in
    let put : IsPut tree (bstring_bytes c.in-Some.path) (placed_of c.in-Some.node) c.put.result c.put.new.self = rw c.as_bstr.ensures at c.put.ensures in
    let done : IsPut {A = Unit {0}} tree (bstring_bytes c.in-Some.path) (placed_of c.in-Some.node) (Ok c.in_default.field-0) c.put.new.self = rw c.in_default.is at put in
    let rest = into_iter_items c.next.new.self in
    let before = into_iter_items c.loop-path.path-iterator in
    let long : length before ≡ length (x ∷ rest) = ap length c.in-Some.ensures.steps.0 in
    let all : c.loop-path.at + length before ≡ length c.args.nodes.items = c.loop-path.invariant.1 in
    let more : c.saturating_add-at.result ≡ c.loop-path.at + 1 = omega (arith, c.saturating_add-at.ensures, c.args.nodes.ok, c.args.nodes.small, long, all) in (
      c.loop-path.invariant.0 ∙ ap (λ nodes. with_nodes c.loop-path.at tree (map node_value nodes)) c.in-Some.ensures.steps.0
          ∙ with_nodes_next c.loop-path.at c.saturating_add-at.result tree c.put.new.self (node_value x) (map node_value rest) more done.0 done.1,
      omega (arith, long, all, more),
    )

pub returns-in-Err-clause-err : goal.returns-in-Err-clause-err
returns-in-Err-clause-err c =
    let x : BString × Node = (c.in-Some.path, c.in-Some.node) in
    let tree = c.loop-path.worktree in
    let put : IsPut tree (bstring_bytes c.in-Some.path) (placed_of c.in-Some.node) c.put.result c.put.new.self = rw c.as_bstr.ensures at c.put.ensures in
    let failed : IsPut {A = Unit {0}} tree (bstring_bytes c.in-Some.path) (placed_of c.in-Some.node) (Err c.in-Err.error) c.put.new.self = rw c.in-Err.is at put in
    let left = c.loop-path.invariant.0 ∙ ap (λ nodes. with_nodes c.loop-path.at tree (map node_value nodes)) c.in-Some.ensures.steps.0 in
    nodes_refused (map node_value c.args.nodes.items) tree (node_value x) (map node_value (into_iter_items c.next.new.self)) c.in-Err.error c.loop-path.at c.of_node.result c.of_node.ensures left failed.0

pub returns-clause-ok : goal.returns-clause-ok
returns-clause-ok c =
    let none : into_iter_items c.loop-path.path-iterator ≡ [] = nil_from_length (into_iter_items c.loop-path.path-iterator) (omega (arith, c.loop-path.path-iterator.rest.ok.0, c.in-None.ensures.steps.0)) in
    c.loop-path.invariant.0 ∙ ap (λ nodes. with_nodes c.loop-path.at c.loop-path.worktree (map node_value nodes)) none
