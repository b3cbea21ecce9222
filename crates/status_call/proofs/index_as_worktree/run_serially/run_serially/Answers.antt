use Rattle.std.proofs.Common.{rules, ◌∙◌, ◌<◌, ◌^◌, length, arith, refl}
use Rattle.std.proofs.lemmas.Result.{err_from_is_err_and}
use Rattle.status_call.specs.Considered.{part_entries}
use Rattle.status_call.specs.Runs.{IsFaithfulTo}
use Rattle.status_call.proofs.ConsideredParts.{part_inside, part_is_index, part_long}
use Rattle.status_call.proofs.WorkInOrder.{way_none, row_of, piece_placed, piece_fits, stop_piece, stop_cut, way_more, whole_reaches}
use Rattle.status_call.specs.Views.{nothing_seen}
use Rattle.status_call.proofs.index_as_worktree.run_serially.run_serially.Goals as goal

pub loop-at-init : goal.loop-at-init
loop-at-init g c = record {
  way = rw c.none-totals.ensures (way_none _ _ _ _ _ _ (λ _. nothing_seen) (part_is_index c.args.considered.now) _ (omega arith));
  same = refl;
  within = λ e v allowed. allowed;
  cut = λ k d h. absurd (omega arith);
  inside = omega arith;
}

pub feed_piece-requires : goal.feed_piece-requires
feed_piece-requires g c κs =
    let whole = c.args.considered.now in
    ((refl, tt), piece_placed _ _ whole.start (part_entries whole) 0 (IsFaithfulTo whole) (length whole.entries.now) c.loop-at.at c.piece_end-to.result _ (part_inside whole) c.compare_piece-piece.ensures.piece)

pub returns-in_err-fed : goal.returns-in_err-fed
returns-in_err-fed g c =
    let whole = c.args.considered.now in
    let p = c.compare_piece-piece in
    let row = row_of _ _ _ _ c.args.execution.now.interrupt _ _ _ _ p.result c.loop-at.invariant.same c.loop-at.invariant.within c.piece_end-to.ensures.within p.ensures.piece p.ensures.uninterrupted in
    let failed = err_from_is_err_and c.from_residual.result c.from_residual.ensures.1 in
    rw (failed.1, failed.2) (stop_piece _ _ _ (part_entries whole) _ _ _ _ _ c.loop-at.at c.loop-at.totals _ _ c.loop-at.invariant.way p.result row _ c.in_err-fed.field-0.0 c.in_err-fed.ensures)

pub add-requires : goal.add-requires
add-requires g c =
    let whole = c.args.considered.now in
    let p = c.compare_piece-piece in
    let row = row_of _ _ _ _ c.args.execution.now.interrupt _ _ _ _ p.result c.loop-at.invariant.same c.loop-at.invariant.within c.piece_end-to.ensures.within p.ensures.piece p.ensures.uninterrupted in
    let end : whole.end < 2 ^ 64 = search rules in
    piece_fits _ _ _ (part_entries whole) _ _ _ 1 0 c.loop-at.at c.loop-at.totals _ _ c.loop-at.invariant.way p.result row c.in_ok-fed.fed (omega (arith, part_long whole, end)) c.in_ok-fed.ensures.0

pub returns-then-fed : goal.returns-then-fed
returns-then-fed g c =
    let whole = c.args.considered.now in
    let p = c.compare_piece-piece in
    let row = row_of _ _ _ _ c.args.execution.now.interrupt _ _ _ _ p.result c.loop-at.invariant.same c.loop-at.invariant.within c.piece_end-to.ensures.within p.ensures.piece p.ensures.uninterrupted in
    stop_cut _ _ _ (part_entries whole) _ _ _ _ _ c.loop-at.at c.loop-at.totals _ _ c.loop-at.invariant.way p.result row _ c.in_ok-fed.fed c.add.new.self c.in_ok-fed.ensures c.add.ensures c.if-fed.true

pub loop-at-preserved : goal.loop-at-preserved
loop-at-preserved g c =
    let whole = c.args.considered.now in
    let p = c.compare_piece-piece in
    let row = row_of _ _ _ _ c.args.execution.now.interrupt _ _ _ _ p.result c.loop-at.invariant.same c.loop-at.invariant.within c.piece_end-to.ensures.within p.ensures.piece p.ensures.uninterrupted in
    let more = way_more _ _ _ (part_entries whole) _ _ _ 1 0 c.loop-at.at c.loop-at.totals _ _ c.loop-at.invariant.way p.result row _ c.in_ok-fed.fed c.add.new.self c.in_ok-fed.ensures c.add.ensures c.if-fed.false in
    let reached = whole_reaches _ _ _ _ _ _ p.result p.ensures.piece more.0 in
    record {
      way = rw (← reached) more.1;
      same = p.ensures.same ∙ c.loop-at.invariant.same;
      within = λ e v allowed. c.loop-at.invariant.within e v (p.ensures.within e v allowed);
      cut = c.piece_end-to.ensures.cut;
      inside = c.piece_end-to.ensures.within;
    }
