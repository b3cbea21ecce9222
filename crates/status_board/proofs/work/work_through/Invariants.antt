use Rattle.std.proofs.Common.{◌≡◌, ◌-◌, false, []}
use Rattle.status_board.specs.Numbers.{after_last}
use Rattle.status_board.specs.Accounts.{Accounts}
use Rattle.status_board.proofs.work.work_through.Given as goal

abbrev pub invariant-loop-number : goal.invariant-loop-number
invariant-loop-number g l =
    (l.worked.seat.board ≡ l.board.id) × (l.worked.seat.done ≡ false) × g.K.Work.fits l.work l.state × Accounts (g.K.Work.gives l.work) g.K.Work.short [] l.worked.seat l.worked.finished.items

abbrev pub decreases-loop-number : goal.decreases-loop-number
decreases-loop-number g l = l.board.id.pieces - after_last l.worked.seat.drawn
