use Rattle.std.proofs.Common.{map}
use Rattle.status_joined.specs.Copies.{IsCopy}
use Rattle.status_joined.specs.ListItems.{item_of}
use Rattle.status_joined.proofs.Copies.{same_copy}
use Rattle.status_joined.proofs.Rewriting.{id_fault, tracker_fault, refused_fault, destinations_led, rewriting}
use Rattle.status_joined.proofs.index_as_worktree_with_renames.rewriting.rewrite_list.Goals as goal

pub returns-in-Err-clause-answer : goal.returns-in-Err-clause-answer
returns-in-Err-clause-answer g c =
    let ids = g.N.Identify.identifying c.args.ids.now in
    rw c.id_error.ensures
    (id_fault ids c.args.call.now.options.object_hash (g.X.Tracker.tracks c.args.tracker.now) c.args.rewrites.track_empty (map item_of c.args.items.items) c.in-Err.error c.in-Err.ensures.ids)

pub returns-in-Err-pairs-clause-answer : goal.returns-in-Err-pairs-clause-answer
returns-in-Err-pairs-clause-answer g c =
    rw c.from.ensures
    (tracker_fault _ _ _ _ _ c.identify.new.items.items c.as_slice.result.now c.as_slice.ensures.value
    (record { known = c.in_default.ensures.ids; same = c.in_default.ensures.same }) c.in-Err-pairs.error c.in-Err-pairs.ensures)

pub returns-in-Ok-rewrite-clause-answer : goal.returns-in-Ok-rewrite-clause-answer
returns-in-Ok-rewrite-clause-answer g c =
    rewriting _ _ _ _ _ c.identify.new.items.items c.as_slice.result.now c.as_slice.ensures.value
    (record { known = c.in_default.ensures.ids; same = c.in_default.ensures.same }) c.in-Ok.pairs.items c.in-Ok.ensures _
    (λ x y k. same_copy g.met.T.ExactClone.clones_are_equal g.met.U.ExactClone.clones_are_equal (item_of x) (item_of y) k) c.in-Ok-rewrite.entries.items
    c.as_slice-3.result.now c.as_slice-3.ensures.value c.in-Ok-rewrite.ensures
    c.as_slice-2.result.now c.as_slice-2.ensures.value c.count-outcome.result c.count-outcome.ensures.renames c.count-outcome.ensures.copies

pub returns-in-Ok-rewrite-clause-led : goal.returns-in-Ok-rewrite-clause-led
returns-in-Ok-rewrite-clause-led g c =
    let ids = g.N.Identify.identifying c.args.ids.now in
    destinations_led ids c.args.call.now.options.object_hash (g.X.Tracker.tracks c.args.tracker.now) c.args.rewrites.track_empty (map item_of c.args.items.items)
    c.identify.new.items.items c.as_slice.result.now c.as_slice.ensures.value
    (record { known = c.in_default.ensures.ids; same = c.in_default.ensures.same }) c.in-Ok.pairs.items c.in-Ok.ensures _
    (λ x y k. same_copy g.met.T.ExactClone.clones_are_equal g.met.U.ExactClone.clones_are_equal (item_of x) (item_of y) k) c.in-Ok-rewrite.entries.items
    c.as_slice-3.result.now c.as_slice-3.ensures.value c.in-Ok-rewrite.ensures

pub returns-clause-answer : goal.returns-clause-answer
returns-clause-answer g c =
    rw c.refused_error.ensures
    (refused_fault _ _ _ _ _ c.identify.new.items.items c.as_slice.result.now c.as_slice.ensures.value
    (record { known = c.in_default.ensures.ids; same = c.in_default.ensures.same }) c.in-Ok.pairs.items c.in-Ok.ensures
    (λ x y. IsCopy g.T.Clone.is_clone g.U.Clone.is_clone (item_of x) (item_of y))
    c.as_slice-3.result.now c.as_slice-3.ensures.value c.in-Err-rewrite.refused c.in-Err-rewrite.ensures)
