use Rattle.status_board.proofs.Hands.{Gathers}
use Rattle.status_board.proofs.board.Board.close.Given as goal

-- the seats that were taken are joined
abbrev pub invariant-loop-seat : goal.invariant-loop-seat
invariant-loop-seat l = Gathers l.self-inside.table.shared.table_id l.self-inside.pieces l.fn.seats.items l.seats.items l.token.table_id l.token.me

abbrev pub decreases-loop-seat : goal.decreases-loop-seat
decreases-loop-seat l = goal.left-loop-seat l
