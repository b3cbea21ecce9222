use Rattle.std.proofs.Common.{ap}
use Rattle.status_board.specs.Seats.{SeatState}
use Rattle.status_board.proofs.Accounting.{accounts_drawn, fewer_left}
use Rattle.status_board.proofs.work.work_through.Goals as goal

pub work_piece-requires-clause-accounts : goal.work_piece-requires-clause-accounts
work_piece-requires-clause-accounts g c =
    accounts_drawn (g.K.Work.gives c.args.work.now) g.K.Work.short c.loop-number.worked.seat c.draw.new.seat c.in-Some.number c.loop-number.worked.finished.items c.in-Some.ensures.some.0 c.loop-number.invariant.3

pub loop-number-smaller : goal.loop-number-smaller
loop-number-smaller g c =
    fewer_left c.args.board.now.id.pieces c.in-Some.number c.loop-number.worked.seat.drawn c.draw.new.seat.drawn c.work_piece.new.worked.seat.drawn c.work_piece.ensures.stays.drawn (ap (λ (u : SeatState). u.drawn) c.in-Some.ensures.some.0) c.in-Some.ensures.some.1 c.in-Some.ensures.some.2
