use Rattle.std.proofs.Common.{ap, ◌∙◌}
use Rattle.std.specs.Option.{option_map}
use Rattle.status_base.specs.Nodes.{placed_of}
use Rattle.status_base.proofs.Placed.{tree-get, tree-remove}
use Rattle.status_base.proofs.worktree.memory.MemoryWorktree.remove.Goals as goal

pub returns-clause-value : goal.returns-clause-value
returns-clause-value c =
    ap (option_map placed_of) c.remove.ensures.value ∙ tree-get c.self.inside.nodes.entries _ _ _ _ c.self.view_is c.as_bytes.ensures

pub returns-clause-after : goal.returns-clause-after
returns-clause-after c =
    tree-remove c.self.inside.nodes.entries _ _ _ _ _ c.self.view_is c.as_bytes.ensures c.remove.ensures.updates.1 c.remove.ensures.updates.3
