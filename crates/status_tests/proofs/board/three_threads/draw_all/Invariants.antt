use Rattle.std.proofs.Common.{◌≡◌, ◌-◌, false}
use Rattle.status_board.specs.Numbers.{after_last}
use Rattle.status_tests.proofs.board.three_threads.draw_all.Given as goal

abbrev pub invariant-loop-number : goal.invariant-loop-number
invariant-loop-number l = (l.seat.board ≡ l.board.id) × (l.seat.done ≡ false)

abbrev pub decreases-loop-number : goal.decreases-loop-number
decreases-loop-number l = l.board.id.pieces - after_last l.seat.drawn
