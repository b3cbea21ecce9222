use Rattle.std.proofs.Common.{◌≡◌, ◌+◌, vec_len}
use Rattle.status_board.specs.Accounts.{AreReady}
use Rattle.status_board.proofs.crew.Crew.start.Given as goal

abbrev pub invariant-loop-state : goal.invariant-loop-state
invariant-loop-state g l =
    AreReady l.self.board.now.id (g.K.Work.fits l.self.work.now) (vec_len l.states) l.seats l.states
    × (vec_len l.started.handles + vec_len l.states ≡ vec_len l.initial.states)
    × (l.started.of ≡ l.initial.started.of)

abbrev pub decreases-loop-state : goal.decreases-loop-state
decreases-loop-state g l = vec_len l.states
