use Rattle.std.proofs.Common.{List, map, refl, sym, ap, ◌∙◌}
use Rattle.std.specs.Vec.Iter.{into_iter_items}
use Rattle.std.proofs.lemmas.List.{nil_from_length}
use Rattle.status_rewrites.specs.declared.rewrites.Rewritten.{Rewritten}
use Rattle.status_rewrites.specs.Entries.{IsLed, map_rewritten}
use Rattle.status_joined.specs.declared.item.ModificationOrDirwalkEntry.{ModificationOrDirwalkEntry}
use Rattle.status_joined.specs.Items.{is_walked}
use Rattle.status_joined.specs.ListItems.{item_of}
use Rattle.status_joined.proofs.Feeding.{none_reported, one_more, holds_next, all_reported, reported_until}
use Rattle.status_joined.proofs.index_as_worktree_with_renames.recorder.feed_rewritten.Goals as goal

pub loop-entry-init : goal.loop-entry-init
loop-entry-init g c =
    rw c.into_iter-entry-iterator.ensures.into_iter_gives.0 (none_reported (map (map_rewritten item_of) c.args.entries.items) (g.V.VisitEntry.visits c.args.collector.now))

pub feed_one-requires : goal.feed_one-requires
feed_one-requires g c κs =
    let visits = g.V.VisitEntry.visits in
    let mapped = λ (entries : List (Rewritten (ModificationOrDirwalkEntry g.row.V-ContentChange.Denot g.row.V-SubmoduleStatus.Denot))). map (map_rewritten item_of) entries in (
      (refl, tt),
      holds_next (IsLed is_walked) (mapped c.args.entries.items) (visits c.args.collector.now) (visits c.loop-entry.collector)
          (map_rewritten item_of c.in-Some.entry) (mapped (into_iter_items c.loop-entry.entry-iterator)) (mapped (into_iter_items c.next.new.self))
          (ap mapped c.in-Some.ensures.steps.0) c.loop-entry.invariant c.requires,
    )

pub loop-entry-preserved : goal.loop-entry-preserved
loop-entry-preserved g c =
    let visits = g.V.VisitEntry.visits in
    let mapped = λ (entries : List (Rewritten (ModificationOrDirwalkEntry g.row.V-ContentChange.Denot g.row.V-SubmoduleStatus.Denot))). map (map_rewritten item_of) entries in
    one_more (mapped c.args.entries.items) (visits c.args.collector.now) (visits c.loop-entry.collector) (visits c.feed_one.new.collector)
    (map_rewritten item_of c.in-Some.entry) (mapped (into_iter_items c.loop-entry.entry-iterator)) (mapped (into_iter_items c.next.new.self))
    (ap mapped c.in-Some.ensures.steps.0) c.loop-entry.invariant c.in_default.ensures

pub returns-in-Err : goal.returns-in-Err
returns-in-Err g c =
    let visits = g.V.VisitEntry.visits in
    let mapped = λ (entries : List (Rewritten (ModificationOrDirwalkEntry g.row.V-ContentChange.Denot g.row.V-SubmoduleStatus.Denot))). map (map_rewritten item_of) entries in (
      c.in-Err.ensures.0,
      reported_until (mapped c.args.entries.items) (visits c.args.collector.now) (visits c.loop-entry.collector) (visits c.feed_one.new.collector)
          (map_rewritten item_of c.in-Some.entry) (mapped (into_iter_items c.loop-entry.entry-iterator)) (mapped (into_iter_items c.next.new.self))
          (ap mapped c.in-Some.ensures.steps.0) c.requires c.loop-entry.invariant c.in-Err.ensures.1,
    )

pub returns : goal.returns
returns g c =
    let visits = g.V.VisitEntry.visits in
    let mapped = λ (entries : List (Rewritten (ModificationOrDirwalkEntry g.row.V-ContentChange.Denot g.row.V-SubmoduleStatus.Denot))). map (map_rewritten item_of) entries in
    all_reported (mapped c.args.entries.items) (visits c.args.collector.now) (visits c.loop-entry.collector) (mapped (into_iter_items c.loop-entry.entry-iterator))
    (ap mapped (nil_from_length (into_iter_items c.loop-entry.entry-iterator) (sym c.loop-entry.entry-iterator.rest.ok.0 ∙ c.in-None.ensures.steps.0))) c.loop-entry.invariant
