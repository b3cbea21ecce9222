use Rattle.std.proofs.Common.{◌≡◌, ◌-◌, ◌≤◌, All, IfOk, length, vec_len}
use Rattle.std.specs.Vec.Iter.{into_iter_items}
use Rattle.status_board.specs.Accounts.{IsBrought}
use Rattle.status_board.proofs.crew.Started.join_all.Given as goal

abbrev pub invariant-loop-handle : goal.invariant-loop-handle
invariant-loop-handle g l =
    let rest = into_iter_items l.handle-iterator in
    let of = l.fn.self.of in
    All (λ h. h.promise ≡ of) rest
    × IfOk l.gathered (IsBrought (g.K.Work.gives of.work.now) g.K.Work.short of.board.now.id (vec_len l.fn.self.handles - length rest))
    × (length rest ≤ vec_len l.fn.self.handles)
