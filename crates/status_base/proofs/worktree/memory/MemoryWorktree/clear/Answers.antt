use Rattle.status_base.proofs.Placed.{tree-clear}
use Rattle.status_base.proofs.worktree.memory.MemoryWorktree.clear.Goals as goal

pub returns : goal.returns
returns c =
    tree-clear c.self.inside.nodes.entries c.self.inside.planted.entries _ _ _ _ c.self.view_is c.as_bytes.ensures c.remove.ensures.updates.1 c.remove.ensures.updates.3
