use Rattle.std.proofs.Common.{refl, ap, ◌∙◌}
use Rattle.std.specs.Option.{option_map}
use Rattle.status_base.specs.Nodes.{placed_of}
use Rattle.status_base.proofs.Placed.{tree-get, placed-lent}
use Rattle.status_base.proofs.worktree.memory.MemoryWorktree.node_at.Goals as goal

pub returns : goal.returns
returns c =
    placed-lent c.get.result (λ n. n.now) ∙ ap (option_map placed_of) c.get.ensures.value
    ∙ tree-get c.self.inside.nodes.entries _ _ _ _ c.self.view_is refl
