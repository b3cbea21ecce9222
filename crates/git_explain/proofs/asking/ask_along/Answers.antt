use Rattle.std.proofs.Common.{◌≡◌, ◌≤◌, ℕ, List, IfSome, Option, length, arith, subst, sym}
use Rattle.status_index.specs.declared.stat.Metadata.{Metadata}
use Rattle.status_base.specs.Looked.{IsMet}
use Rattle.status_base.specs.Sights.{IsOpenBelow}
use Rattle.git_explain.proofs.SightLemmas.{node_met, open_begun, open_past}
use Rattle.git_explain.proofs.asking.ask_along.Goals as goal

pub loop-at-init : goal.loop-at-init
loop-at-init g c =
    let tree = c.args.worktree.worktree.now in
    (open_begun (g.W.Worktree.may_stat tree) c.args.path.now (g.met.W.Worktree.stat_may_fail tree), λ h. h)

pub loop-at-preserved : goal.loop-at-preserved
loop-at-preserved g c =
    let may = g.W.Worktree.may_stat c.args.worktree.worktree.now in
    let path : List ℕ = c.args.path.now in
    let within : c.loop-at.at ≤ length path = omega (arith, c.loop-at-test.true) in
    let says = c.in_ok-ask_lstat.ensures in
    let inv = c.loop-at.invariant in
    (open_past may path c.loop-at.at c.in_ok-ask_lstat.field-0 within says.found (c.is_barrier.ensures c.if-is_barrier.false) inv.0, λ h. says.calls (inv.1 h))

pub returns-clause-met : goal.returns-clause-met
returns-clause-met g c =
    let tree = c.args.worktree in
    let may = g.W.Worktree.may_stat tree.worktree.now in
    let path : List ℕ = c.args.path.now in
    let whole : c.loop-at.at ≡ length path = omega (arith, c.loop-at-test.false, c.loop-at.auto.at-end) in
    let above = subst (IsOpenBelow may path) whole c.loop-at.invariant.0 in
    let P : Option Metadata → Type 0 = λ found. IfSome found (IsMet may tree.fscache path) in
    subst P (sym c.ok.ensures.value) (node_met may tree.fscache path c.in_ok-ask_lstat-2.field-0 above c.in_ok-ask_lstat-2.ensures.found)
