use Rattle.std.proofs.Common.{◌≡◌, Result, IsSome, refl, sym, ap, subst, ◌∙◌}
use Rattle.std.specs.BTreeMap.{is_at}
use Rattle.std.specs.Map.{lookup}
use Rattle.std.specs.declared.alloc.AllocError.{AllocError}
use Rattle.bstr.specs.BStr.{bstr_bytes}
use Rattle.status_base.specs.Nodes.{tree_of}
use Rattle.status_base.specs.Points.{with_fault, IsPlanted}
use Rattle.status_base.proofs.ListingTables.{to_key}
use Rattle.status_base.proofs.Placed.{planted-beside, planted-first}
use Rattle.status_base.proofs.worktree.memory.MemoryWorktree.plant.Goals as goal
use Rattle.status_base.proofs.worktree.memory.MemoryWorktree.plant.Goals.{in-Ok+in-Some-1, in-Ok+in-None-1, in-Err}

-- the path had faults, which were overwritten
pub returns-in-Some : goal.returns-in-Some
returns-in-Some c =
    let written = c.get_mut.follows.holds c.plant.new.self in
    let updated = written.3 (subst IsSome c.in-Some.ensures.value refl) in
    planted-beside c.self.inside.nodes.entries c.self.inside.planted.entries (c.get_mut.follows.lender c.plant.new.self).entries _ _ _ _ _
    c.in-Some.faults.now c.plant.new.self c.plant.result c.self.view_is c.as_bytes-path.ensures c.in-Some.ensures.value written.0 updated.1 updated.3 c.plant.ensures.ok c.plant.ensures.err

-- the path had no faults
pub returns : goal.returns
returns c =
    let tree = c.args.self.now in let path = bstr_bytes c.args.path in let point = c.args.point in let fault = c.args.fault in
    let nodes = c.self.inside.nodes.entries in let before = c.get_mut.follows.lender-at-none in let new = c.insert.new.self.entries in
    let kept = c.get_mut.follows.holds-at-none in
    let view : tree_of nodes before.entries ≡ tree = ap (λ m. tree_of nodes m.entries) kept ∙ c.self.view_is in
    let at = c.in_ok-path.ensures.items ∙ c.as_bytes-path.ensures in
    let none = c.in_default.ensures.value ∙ (λ i. lookup (is_at (to_key (sym c.in_ok-path.ensures.items i))) (sym kept i).entries) in
    let one = c.in_ok-plant.ensures.ok ∙ ap (λ p. with_fault p point fault) c.new-faults.ensures in
    let to : Result (Unit {0}) AllocError → Type 0 = λ r. IsPlanted tree path point fault r (tree_of nodes new) in
    elim c.match-insert.branch [
      | in-Ok+in-Some-1 w ↦ subst to (sym w.result-is) (planted-first nodes before.entries new tree _ path point fault _ view at none w.in-Ok.ensures.updates.1 w.in-Ok.ensures.updates.3 one)
      | in-Ok+in-None-1 w ↦ subst to (sym w.result-is) (planted-first nodes before.entries new tree _ path point fault _ view at none w.in-Ok.ensures.updates.1 w.in-Ok.ensures.updates.3 one)
      | in-Err w ↦ subst to (sym w.result-is) (ap (tree_of nodes) w.in-Err.ensures.err ∙ view)
    ]
