use Rattle.std.proofs.Common.{◌≡◌, ◌∷◌, [], ◌++◌, nat_eq, sym, ap, ◌∙◌}
use Rattle.std.specs.List.{starts_with}
use Rattle.status_base.specs.MemoryTree.{has_below}
use Rattle.status_base.proofs.AnyPath.{below-by_first, first_has_front}
use Rattle.status_base.proofs.worktree.memory.MemoryWorktree.has_below.Goals as goal
use Rattle.status_base.proofs.worktree.memory.MemoryWorktree.has_below.Goals.{in-Some, in-None}

pub returns : goal.returns
returns c =
    let front = c.push.new.self in
    let at : front.items ≡ c.args.path.now ++ 47 ∷ [] = c.in_ok-push.ensures.items ∙ ap (λ xs. xs ++ 47 ∷ []) c.in_ok-front.ensures.items in
    let below : first_has_front front.items c.range-from_front.result ≡ has_below c.args.self.now c.args.path.now =
    below-by_first front c.self.inside.nodes.entries _ _ _ _ c.self.view_is at c.range-from_front.ensures.ordered (c.range-from_front.ensures.between tt) in
    elim c.match-next.branch [
      | in-Some w ↦ w.result-is ∙ w.starts_with.ensures.value ∙ (λ i. starts_with nat_eq (w.deref.ensures.value i) (w.as_slice.ensures.value i)) ∙ sym (ap (first_has_front front.items) w.in-Some.ensures.steps) ∙ below
      | in-None w ↦ w.result-is ∙ sym (ap (first_has_front front.items) w.in-None.ensures.steps.0) ∙ below
    ]
