use Rattle.std.proofs.Common.{◌≡◌, suc, ◌-◌, ◌<◌, ◌≤◌, IfOk, length, vec_len, ap, subst, ℕ, arith}
use Rattle.std.specs.Vec.Iter.{into_iter_items}
use Rattle.status_board.specs.declared.crew.Brings.{Brings}
use Rattle.status_board.specs.Accounts.{IsBrought, IsWorked}
use Rattle.status_board.proofs.Accounting.{brought_more}
use Rattle.status_board.proofs.crew.Started.join_all.Goals as goal

pub loop-handle-preserved : goal.loop-handle-preserved
loop-handle-preserved g c =
    let of = c.args.self.of in
    let gives = g.K.Work.gives of.work.now in
    let short = g.K.Work.short in
    let id = of.board.now.id in
    let rest = into_iter_items c.next.new.self in
    let items = into_iter_items c.loop-handle.handle-iterator in
    let long : length items ≡ suc (length rest) = ap length c.in-Some.ensures.steps.0 in
    let n = vec_len c.args.self.handles in
    let few : length items ≤ n = c.loop-handle.invariant.2 in
    let some : 0 < length items = omega arith in
    let mine : c.in-Some.handle.promise ≡ of = rw c.in-Some.ensures.steps.0 at (c.loop-handle.invariant.0 0 c.in-Some.handle some) in
    let one : IfOk c.join.result (IsWorked gives short id) = subst (λ (p : Brings g.row.K.Denot). IfOk c.join.result (IsWorked (g.K.Work.gives p.work.now) short p.board.now.id)) mine c.join.ensures in
    let more = brought_more gives short id (n - length items) c.loop-handle.gathered c.join.result c.gather-gathered.result c.gather-gathered.ensures c.loop-handle.invariant.1 one in (
      λ k d l. let in_items : suc k < length items = omega arith in rw c.in-Some.ensures.steps.0 at (c.loop-handle.invariant.0 (suc k) d in_items),
      subst (λ (k : ℕ). IfOk c.gather-gathered.result (IsBrought gives short id k)) (omega arith) more,
      omega arith,
    )
