use Rattle.std.proofs.Common.{◌≡◌, ap, sym, ◌∙◌, map, ◌++◌, [], refl, arith}
use Rattle.std.specs.Vec.Iter.{into_iter_items}
use Rattle.std.proofs.lemmas.List.{append-nil, nil_from_length}
use Rattle.status_call.specs.RecorderVisits.{visit_of}
use Rattle.status_joined.specs.Items.{tracked}
use Rattle.status_joined.specs.ListItems.{item_of}
use Rattle.status_joined.proofs.list.unsorted.Goals as goal

pub loop-node-init : goal.loop-node-init
loop-node-init g c =
    let none : into_iter_items c.loop-record.record-iterator ≡ [] =
    nil_from_length (into_iter_items c.loop-record.record-iterator) (omega (arith, c.loop-record.record-iterator.rest.ok.0, c.in-None.ensures.steps.0)) in
    let reported : map item_of c.loop-record.list.items ≡ map tracked (map visit_of c.args.records.items) =
    sym (append-nil (map item_of c.loop-record.list.items)) ∙ ap (λ rest. map item_of c.loop-record.list.items ++ map tracked (map visit_of rest)) (sym none) ∙ c.loop-record.invariant in
    rw (reported, c.into_iter-node-iterator.ensures.into_iter_gives.0) refl
