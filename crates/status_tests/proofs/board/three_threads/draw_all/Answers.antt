use Rattle.std.proofs.Common.{ℕ, ◌-◌, ◌<◌, List, ap, sym, subst}
use Rattle.status_board.specs.Numbers.{after_last}
use Rattle.status_board.specs.Seats.{SeatState}
use Rattle.status_board.proofs.Lasts.{draw_falls}
use Rattle.status_tests.proofs.board.three_threads.draw_all.Goals as goal

pub loop-number-smaller : goal.loop-number-smaller
loop-number-smaller c =
    let pieces = c.args.board.now.id.pieces in
    let before = c.loop-number.seat.drawn in
    let some = c.in-Some.ensures.some in
    let drawn = ap (λ (s : SeatState). s.drawn) some.0 in
    subst (λ (xs : List ℕ). pieces - after_last xs < pieces - after_last before) (sym drawn) (draw_falls pieces before c.in-Some.number some.1 some.2)
