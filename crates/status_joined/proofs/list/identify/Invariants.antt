use Rattle.status_joined.specs.ListItems.{item_of}
use Rattle.status_joined.proofs.Identifying.{AreIdentifiedUpTo}
use Rattle.status_joined.proofs.list.identify.Given as goal

abbrev pub invariant-loop-item : goal.invariant-loop-item
invariant-loop-item g l =
    let ids = g.N.Identify.identifying l.ids in
    AreIdentifiedUpTo item_of l.fn.kind ids.modelled ids.ids l.fn.items.items l.item-items l.item-index
