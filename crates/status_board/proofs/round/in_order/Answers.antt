use Rattle.std.proofs.Common.{◌∙◌, sym, subst, List, ◌∷◌}
use Rattle.std.specs.Vec.Iter.{into_iter_items}
use Rattle.status_board.specs.declared.work.Finished.{Finished}
use Rattle.status_board.specs.FinishedPieces.{IsPlaced}
use Rattle.status_board.proofs.Slots.{placed_none, placed_more, placed_end, all_full, placed_outs}
use Rattle.status_board.proofs.round.in_order.Goals as goal

pub loop-piece-init : goal.loop-piece-init
loop-piece-init g c =
    rw c.into_iter-piece-iterator.ensures.into_iter_gives.0 (placed_none c.args.finished.items c.args.end c.in_ok-slots.slots.items c.in_ok-slots.ensures)

pub loop-piece-preserved : goal.loop-piece-preserved
loop-piece-preserved g c =
    let before : IsPlaced c.args.finished.items c.args.end c.loop-piece.slots.items (c.in-Some.piece ∷ into_iter_items c.next.new.self) =
    subst (λ (r : List (Finished g.row.O.Denot)). IsPlaced c.args.finished.items c.args.end c.loop-piece.slots.items r) c.in-Some.ensures.steps.0 c.loop-piece.invariant in
    rw c.place.ensures (placed_more c.args.finished.items c.args.end c.loop-piece.slots.items c.in-Some.piece (into_iter_items c.next.new.self) c.requires before)

pub taken_out-requires : goal.taken_out-requires
taken_out-requires g c =
    let fs = c.args.finished.items in
    let slots = c.loop-piece.slots.items in
    let placed = placed_end fs c.args.end slots (into_iter_items c.loop-piece.piece-iterator) (sym c.loop-piece.piece-iterator.rest.ok.0 ∙ c.in-None.ensures.steps.0) c.loop-piece.invariant in
    all_full fs c.args.end slots placed c.requires

pub returns : goal.returns
returns g c =
    let fs = c.args.finished.items in
    let slots = c.loop-piece.slots.items in
    let placed = placed_end fs c.args.end slots (into_iter_items c.loop-piece.piece-iterator) (sym c.loop-piece.piece-iterator.rest.ok.0 ∙ c.in-None.ensures.steps.0) c.loop-piece.invariant in
    placed_outs fs c.args.end slots placed c.taken_out.result c.taken_out.ensures
