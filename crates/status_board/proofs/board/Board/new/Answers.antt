use Rattle.std.proofs.Common.{◌≡◌, ℕ, ◌+◌, ◌-◌, [], false, replicate, refl, ap, ◌∙◌, arith}
use Rattle.status_board.specs.Seats.{BoardId, fresh}
use Rattle.status_board.specs.Shared.{known, goes, shown}
use Rattle.status_board.proofs.Cuts.{cuts}
use Rattle.status_board.proofs.Hands.{Hand, cut_more, fresh_more}
use Rattle.status_board.proofs.board.Board.new.Goals as goal

pub split_seat-token-requires : goal.split_seat-token-requires
split_seat-token-requires c =
    let words = c.in_ok-table.ensures.0 in
    let table = c.in_ok-table.table.shared in
    let parts = ap (λ (m : Hand). m.0.parts) c.loop.invariant.token in
    let more = c.loop-test.true in
    let counted = c.loop.auto.counter in (
      c.loop.invariant.table,
      omega arith,
      cuts table.key.pieces table.key.seats c.loop.token.id c.loop.token.me.0 (omega arith) (ap (λ (m : Hand). m.0.misses) c.loop.invariant.token),
    )

pub loop-preserved : goal.loop-preserved
loop-preserved c =
    let split = c.split_seat-token.ensures in
    let had = c.loop.invariant in
    let pieces = c.args.pieces in
    let id : BoardId = record { table = c.in_ok-table.table.shared.table_id; pieces = pieces } in
    let counted = c.loop.auto.counter in
    let left : c.args.seats + 1 - c.loop.counter - 1 ≡ c.args.seats + 1 - (c.loop.counter + 1) = omega arith in
    let count : c.loop.counter - 1 + 1 ≡ c.loop.counter + 1 - 1 = omega arith in
    let hand = split.4 ∙ ap (λ (m : Hand). (goes m.0, [])) had.token in
    let table = split.3 ∙ had.table in
    let seat : shown c.split_seat-token.result.table_id c.split_seat-token.result.me.0 false ≡ fresh id = λ i. shown (table i) ((hand i).0) false in
    record {
      table = split.0 ∙ had.table;
      token = cut_more pieces (c.args.seats + 1 - c.loop.counter) c.loop.token.me c.split_seat-token.new.seat.me had.token split.2 ∙ ap (λ (n : ℕ). (known pieces n [] [] [] 0, [])) left;
      seats = fresh_more id (c.loop.counter - 1) c.loop.all.items c.push.new.self.items (shown c.split_seat-token.result.table_id c.split_seat-token.result.me.0 false) had.seats c.in_ok-push.ensures.items seat ∙ ap (λ (n : ℕ). replicate n (fresh id)) count;
    }

pub returns : goal.returns
returns c =
    let had = c.loop.invariant in
    let id : BoardId = record { table = c.in_ok-table.table.shared.table_id; pieces = c.args.pieces } in
    let counted = c.loop.auto.counter in
    let some_seat = c.requires.seats.0 in
    let ended = c.loop.auto.counter-end some_seat in
    let through = c.loop-test.false in
    let count : c.loop.counter - 1 + 1 ≡ c.args.seats = omega arith in
    let seat : shown c.loop.token.table_id c.loop.token.me.0 false ≡ fresh id = λ i. shown (had.table i) ((had.token i).0) false in
    let seats = fresh_more id (c.loop.counter - 1) c.loop.all.items c.push-2.new.self.items (shown c.loop.token.table_id c.loop.token.me.0 false) had.seats c.in_ok-push-2.ensures.items seat in
    (refl, refl, seats ∙ ap (λ (n : ℕ). replicate n (fresh id)) count)
