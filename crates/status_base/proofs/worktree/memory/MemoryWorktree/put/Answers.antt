use Rattle.std.proofs.Common.{rules, ◌≡◌, None, Result, refl, sym, ap, subst, ◌∙◌, inl}
use Rattle.bstr.specs.BStr.{bstr_bytes}
use Rattle.status_base.specs.Nodes.{placed_of, put_fault, tree_of, IsLookedBelow, IsPut}
use Rattle.status_base.specs.declared.worktree.node.TreeError.{TreeError}
use Rattle.status_base.proofs.Placed.{looked_below, tree-insert}
use Rattle.status_base.proofs.worktree.memory.MemoryWorktree.put.Goals as goal
use Rattle.status_base.proofs.worktree.memory.MemoryWorktree.put.Goals.{in-Ok+in-Some-1, in-Ok+in-None-1, in-Err}

pub returns : goal.returns
returns c =
    let tree = c.args.self.now in let path = bstr_bytes c.args.path in let node = c.args.node in
    let new = c.insert.new.self.entries in let faults = c.self.inside.planted.entries in
    let free : put_fault tree path node.kind ≡ None = ap (λ q. put_fault tree q node.kind) (sym c.as_bytes-path.ensures) ∙ sym c.in_ok-fault.ensures.fault ∙ c.in_default.is in
    let at = c.in_ok-path.ensures.items ∙ c.as_bytes-path.ensures in
    let to : Result (Unit {0}) TreeError → Type 0 = λ r. IsPut tree path (placed_of node) r (tree_of new faults) in
    elim c.match-insert.branch [
      | in-Ok+in-Some-1 w ↦ subst to (sym w.result-is) (free, tree-insert c.self.inside.nodes.entries new faults tree _ path node c.self.view_is at w.in-Ok.ensures.updates.1 w.in-Ok.ensures.updates.3)
      | in-Ok+in-None-1 w ↦ subst to (sym w.result-is) (free, tree-insert c.self.inside.nodes.entries new faults tree _ path node c.self.view_is at w.in-Ok.ensures.updates.1 w.in-Ok.ensures.updates.3)
      | in-Err w ↦ subst to (sym w.result-is) (inl (refl, looked_below tree path node.kind free), ap (λ nodes. tree_of nodes faults) w.in-Err.ensures.err ∙ c.self.view_is)
    ]

pub returns-in_err-path : goal.returns-in_err-path
returns-in_err-path c =
    let tree = c.args.self.now in let path = bstr_bytes c.args.path in
    let free : put_fault tree path c.args.node.kind ≡ None = ap (λ q. put_fault tree q c.args.node.kind) (sym c.as_bytes-path.ensures) ∙ sym c.in_ok-fault.ensures.fault ∙ c.in_default.is in
    let looked : IsLookedBelow tree path = looked_below tree path c.args.node.kind free in
    search rules
