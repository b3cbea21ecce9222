use Rattle.std.proofs.Common.{ap, sym, ◌∙◌, arith}
use Rattle.status_board.specs.Seats.{BoardId, BoardState, SeatState}
use Rattle.status_board.specs.Shared.{weight}
use Rattle.atomic_table.specs.Table.{step}
use mathlib.Core.Option.{none}
use Rattle.status_board.proofs.Steps.{draws}
use Rattle.status_board.proofs.Hands.{drew, drew_last}
use Rattle.status_board.proofs.board.Board.draw.Goals as goal

pub fetch_add-found-requires : goal.fetch_add-found-requires
fetch_add-found-requires c =
    let board = ap (λ (s : SeatState). s.board) c.seat.view_is ∙ c.requires.board ∙ sym (ap (λ (b : BoardState). b.id) c.self.view_is) in
    let words = c.self.invariant.1 in
    let going = ap (λ (s : SeatState). s.done) c.seat.view_is ∙ c.requires.going in
    let key = c.self.inside.table.shared.key in (
      ap (λ (i : BoardId). i.table) board,
      omega arith,
      draws key.pieces key.seats c.self.inside.table.shared.table_id.slots c.seat.inside.token.id c.seat.inside.token.me c.seat.invariant.one (c.seat.invariant.missed ∙ ap weight going),
    )

pub invariant_of-seat : goal.invariant_of-seat
invariant_of-seat c =
    let board = ap (λ (s : SeatState). s.board) c.seat.view_is ∙ c.requires.board ∙ sym (ap (λ (b : BoardState). b.id) c.self.view_is) in
    let pieces = ap (λ (i : BoardId). i.pieces) board in
    let below = c.if-found-self.true in
    drew (step c.self.inside.table.shared.table_id.slots 0 1 0 none) c.seat.inside.token.me c.fetch_add-found.new.seat.me c.fetch_add-found.result c.seat.inside.last c.seat.inside.done c.seat.invariant (omega arith) c.fetch_add-found.ensures.2

pub returns-then-found-self-clause-last : goal.returns-then-found-self-clause-last
returns-then-found-self-clause-last c =
    let board = ap (λ (s : SeatState). s.board) c.seat.view_is ∙ c.requires.board ∙ sym (ap (λ (b : BoardState). b.id) c.self.view_is) in
    let pieces = ap (λ (i : BoardId). i.pieces) board in
    let below = c.if-found-self.true in
    drew_last (step c.self.inside.table.shared.table_id.slots 0 1 0 none) c.seat.inside.token.me c.fetch_add-found.new.seat.me c.fetch_add-found.result (omega arith) c.fetch_add-found.ensures.2
