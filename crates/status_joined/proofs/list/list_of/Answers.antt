use Rattle.std.proofs.Common.{map, subst}
use Rattle.status_call.specs.RecorderVisits.{visit_of}
use Rattle.status_joined.specs.Keeping.{kept_walked}
use Rattle.status_joined.specs.ListItems.{item_of}
use Rattle.status_joined.specs.Lists.{IsSortedList}
use Rattle.status_joined.proofs.Mapped.{sorted_images}
use Rattle.status_joined.proofs.Sides.{records_first}
use Rattle.status_joined.proofs.list.list_of.Goals as goal
use Rattle.status_joined.proofs.list.list_of.Goals.{then-sorting+in_ok-put_in_order, else-sorting}

pub put_in_order-requires : goal.put_in_order-requires
put_in_order-requires g c =
    records_first c.args.kind (map visit_of c.args.records.items) (map kept_walked c.args.kept.items) item_of c.in_ok-list.list.items c.in_ok-list.ensures

pub returns : goal.returns
returns g c = elim c.if-sorting.branch [
  | then-sorting+in_ok-put_in_order w ↦
      let sorted = w.put_in_order.new.items.items in
      rw (w.if-sorting.true, w.list-is) (subst (λ xs. IsSortedList xs (map item_of sorted)) c.in_ok-list.ensures
      (sorted_images c.in_ok-list.list.items sorted w.put_in_order.ensures.bag w.put_in_order.ensures.stable w.in_ok-put_in_order.ensures.order))
  | else-sorting w ↦ rw (w.if-sorting.false, w.list-is) c.in_ok-list.ensures
]
