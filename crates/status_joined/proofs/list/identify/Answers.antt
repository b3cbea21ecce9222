use Rattle.std.proofs.Common.{arith}
use Rattle.status_joined.specs.ListItems.{item_of}
use Rattle.status_joined.proofs.Identifying.{one_more, first_fault}
use Rattle.status_joined.proofs.list.identify.Goals as goal

pub returns-in-Err-clause-ids : goal.returns-in-Err-clause-ids
returns-in-Err-clause-ids g c =
    first_fault item_of c.args.kind _ _ c.args.items.now.items c.loop-item.item-items c.loop-item.item-index c.item-item.result c.in-Err.error
    (omega (arith, c.loop-item-test.true, c.loop-item.auto.item-items)) c.loop-item.invariant c.in-Err.ensures.ids

pub loop-item-preserved : goal.loop-item-preserved
loop-item-preserved g c =
    one_more item_of c.args.kind _ _ c.args.items.now.items c.loop-item.item-items c.loop-item.item-index c.item-item.result c.identify_item.new.item
    (omega (arith, c.loop-item-test.true, c.loop-item.auto.item-items)) c.loop-item.invariant c.in-Ok.ensures.ids (c.in-Ok.ensures.same c.args.kind)
