use Rattle.std.proofs.Common.{refl}
use Rattle.status_base.proofs.Placed.{tree-planted}
use Rattle.status_base.proofs.worktree.memory.MemoryWorktree.planted_at.Goals as goal

pub returns : goal.returns
returns c = tree-planted c.self.inside.nodes.entries c.self.inside.planted.entries _ _ _ _ c.self.view_is refl c.get.ensures.value
