use Rattle.std.proofs.Common.{◌<◌, ◌^◌, length, refl, arith, rules}
use Rattle.std.specs.Vec.Iter.{into_iter_items}
use Rattle.status_call.specs.Rounds.{bound}
use Rattle.status_call.specs.Considered.{part_entries}
use Rattle.status_call.specs.Runs.{IsFaithfulTo}
use Rattle.status_call.proofs.ConsideredParts.{part_inside, part_is_index, part_long}
use Rattle.status_call.proofs.WorkInOrder.{no_work, way_none, row_next, piece_placed, piece_fits, stop_piece, stop_cut, way_more}
use Rattle.status_call.specs.Views.{nothing_seen}
use Rattle.status_call.proofs.index_as_worktree.round.run_round.Goals as goal

pub returns-in-Err : goal.returns-in-Err
returns-in-Err g c =
    no_work _ _ _ _ _ _ (λ _. nothing_seen) (part_is_index c.args.considered.now) _ _ _ _ _ (c.requires.bounds.inside 0 0 (omega (arith, c.requires.bounds.pieces))) c.in-Err.ensures.refused

pub loop-piece-init : goal.loop-piece-init
loop-piece-init g c = record {
  at = bound c.args.bounds.now 0;
  way = rw c.none-totals.ensures (way_none _ _ _ _ _ _ (λ _. nothing_seen) (part_is_index c.args.considered.now) _ (c.requires.bounds.inside 0 0 (omega (arith, c.requires.bounds.pieces))));
  rows = rw c.into_iter-piece-iterator.ensures.into_iter_gives.0 c.in-Ok.ensures.pieces;
}

pub feed_piece-requires : goal.feed_piece-requires
feed_piece-requires g c κs =
    let here = c.loop-piece.invariant in
    let p = c.in-Some.piece in
    let row = row_next _ _ _ _ _ _ here.at _ (into_iter_items c.next.new.self) p c.in-Some.ensures.steps.0 here.rows in
    ((refl, tt), piece_placed _ _ c.args.considered.now.start (part_entries c.args.considered.now) (bound c.args.bounds.now 0) (IsFaithfulTo c.args.considered.now) (length c.args.considered.now.entries.now) here.at row.0.to p (part_inside c.args.considered.now) row.0.result.piece)

pub add-requires : goal.add-requires
add-requires g c =
    let here = c.loop-piece.invariant in
    let p = c.in-Some.piece in
    let row = row_next _ _ _ _ _ _ here.at _ (into_iter_items c.next.new.self) p c.in-Some.ensures.steps.0 here.rows in
    let end : c.args.considered.now.end < 2 ^ 64 = search rules in
    piece_fits _ _ _ _ _ _ _ c.args.workers.now.count 0 here.at c.loop-piece.totals _ _ here.way p row.0 c.in-Ok-feed_piece.fed (omega (arith, part_long c.args.considered.now, end)) c.in-Ok-feed_piece.ensures.0

pub returns-in-Err-feed_piece : goal.returns-in-Err-feed_piece
returns-in-Err-feed_piece g c =
    let here = c.loop-piece.invariant in
    let p = c.in-Some.piece in
    let row = row_next _ _ _ _ _ _ here.at _ (into_iter_items c.next.new.self) p c.in-Some.ensures.steps.0 here.rows in
    stop_piece _ _ _ _ _ _ _ _ _ here.at c.loop-piece.totals _ _ here.way p row.0 _ c.in-Err-feed_piece.error c.in-Err-feed_piece.ensures

pub returns-then-fed : goal.returns-then-fed
returns-then-fed g c =
    let here = c.loop-piece.invariant in
    let p = c.in-Some.piece in
    let row = row_next _ _ _ _ _ _ here.at _ (into_iter_items c.next.new.self) p c.in-Some.ensures.steps.0 here.rows in
    stop_cut _ _ _ _ _ _ _ _ _ here.at c.loop-piece.totals _ _ here.way p row.0 _ c.in-Ok-feed_piece.fed c.add.new.self c.in-Ok-feed_piece.ensures c.add.ensures c.if-fed.true

pub loop-piece-preserved : goal.loop-piece-preserved
loop-piece-preserved g c =
    let here = c.loop-piece.invariant in
    let p = c.in-Some.piece in
    let row = row_next _ _ _ _ _ _ here.at _ (into_iter_items c.next.new.self) p c.in-Some.ensures.steps.0 here.rows in
    let more = way_more _ _ _ _ _ _ _ c.args.workers.now.count 0 here.at c.loop-piece.totals _ _ here.way p row.0 _ c.in-Ok-feed_piece.fed c.add.new.self c.in-Ok-feed_piece.ensures c.add.ensures c.if-fed.false in
    record { at = p.reached; way = more.1; rows = row.1 more.0 }
