use Rattle.std.proofs.Common.{List, map, sym, ap, ◌∙◌}
use Rattle.std.specs.Vec.Iter.{into_iter_items}
use Rattle.std.proofs.lemmas.List.{nil_from_length}
use Rattle.status_rewrites.specs.declared.rewrites.Rewritten.TheVariants.{Alone}
use Rattle.status_joined.specs.declared.item.ModificationOrDirwalkEntry.{ModificationOrDirwalkEntry}
use Rattle.status_joined.specs.ListItems.{item_of}
use Rattle.status_joined.proofs.Feeding.{none_reported, one_more, all_reported, reported_until, alone_led}
use Rattle.status_joined.proofs.index_as_worktree_with_renames.recorder.feed_items.Goals as goal

pub loop-item-init : goal.loop-item-init
loop-item-init g c =
    rw c.into_iter-item-iterator.ensures.into_iter_gives.0 (none_reported (map Alone (map item_of c.args.items.items)) (g.V.VisitEntry.visits c.args.collector.now))

pub loop-item-preserved : goal.loop-item-preserved
loop-item-preserved g c =
    let visits = g.V.VisitEntry.visits in
    let alone = λ (items : List (ModificationOrDirwalkEntry g.row.V-ContentChange.Denot g.row.V-SubmoduleStatus.Denot)). map Alone (map item_of items) in
    one_more (alone c.args.items.items) (visits c.args.collector.now) (visits c.loop-item.collector) (visits c.feed_one.new.collector)
    (Alone (item_of c.in-Some.item)) (alone (into_iter_items c.loop-item.item-iterator)) (alone (into_iter_items c.next.new.self))
    (ap alone c.in-Some.ensures.steps.0) c.loop-item.invariant c.in_default.ensures

pub returns-in-Err : goal.returns-in-Err
returns-in-Err g c =
    let visits = g.V.VisitEntry.visits in
    let alone = λ (items : List (ModificationOrDirwalkEntry g.row.V-ContentChange.Denot g.row.V-SubmoduleStatus.Denot)). map Alone (map item_of items) in (
      c.in-Err.ensures.0,
      reported_until (alone c.args.items.items) (visits c.args.collector.now) (visits c.loop-item.collector) (visits c.feed_one.new.collector)
          (Alone (item_of c.in-Some.item)) (alone (into_iter_items c.loop-item.item-iterator)) (alone (into_iter_items c.next.new.self))
          (ap alone c.in-Some.ensures.steps.0) (alone_led (map item_of c.args.items.items)) c.loop-item.invariant c.in-Err.ensures.1,
    )

pub returns : goal.returns
returns g c =
    let visits = g.V.VisitEntry.visits in
    let alone = λ (items : List (ModificationOrDirwalkEntry g.row.V-ContentChange.Denot g.row.V-SubmoduleStatus.Denot)). map Alone (map item_of items) in
    all_reported (alone c.args.items.items) (visits c.args.collector.now) (visits c.loop-item.collector) (alone (into_iter_items c.loop-item.item-iterator))
    (ap alone (nil_from_length (into_iter_items c.loop-item.item-iterator) (sym c.loop-item.item-iterator.rest.ok.0 ∙ c.in-None.ensures.steps.0))) c.loop-item.invariant
