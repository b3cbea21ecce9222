use Rattle.std.proofs.Common.{◌≡◌, ap, ◌∙◌, sym, arith}
use Rattle.status_board.specs.Seats.{BoardId, BoardState, SeatState}
use Rattle.status_board.specs.Numbers.{last_of}
use Rattle.status_board.specs.declared.rules.Limits.{Limits}
use Rattle.status_board.proofs.Steps.{reports}
use Rattle.status_board.proofs.Hands.{last_among}
use Rattle.status_board.proofs.board.Board.report.Goals as goal

pub fetch_min-requires : goal.fetch_min-requires
fetch_min-requires c =
    let board = ap (λ (s : SeatState). s.board) c.seat.view_is ∙ c.requires.board ∙ sym (ap (λ (b : BoardState). b.id) c.self.view_is) in
    let words = c.self.invariant.1 in
    let key = c.self.inside.table.shared.key in
    let pieces : key.pieces ≡ c.self.inside.pieces = ap (λ (l : Limits). l.pieces) c.self.invariant.0 in
    let same : c.seat.inside.token.me.0.pieces ≡ c.self.inside.pieces = ap (λ (i : BoardId). i.pieces) board in
    let last = ap (λ (s : SeatState). last_of s.drawn) c.seat.view_is ∙ c.requires.last in
    let within = last_among c.seat.inside.token.me.0.pieces c.seat.inside.token.me.0.drawn c.args.piece last c.seat.invariant.inside in (
      ap (λ (i : BoardId). i.table) board,
      omega arith,
      reports key.pieces key.seats c.self.inside.table.shared.table_id.slots c.seat.inside.token.id c.seat.inside.token.me c.args.piece c.seat.invariant.one (omega arith),
    )
