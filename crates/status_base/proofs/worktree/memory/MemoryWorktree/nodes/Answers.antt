use Rattle.std.proofs.Common.{◌∙◌, sym, ap}
use Rattle.std.specs.FinMap as paths
use Rattle.status_base.specs.MemoryTree.{Tree}
use Rattle.status_base.specs.Nodes.{placed_entries}
use Rattle.status_base.proofs.AnyPath.{entries_placed}
use Rattle.status_base.proofs.worktree.memory.MemoryWorktree.nodes.Goals as goal

pub returns-clause-nodes : goal.returns-clause-nodes
returns-clause-nodes c =
    ap placed_entries c.iter.ensures.rest ∙ sym (entries_placed c.self.inside.nodes.entries c.iter.ensures.ordered)
    ∙ ap (λ (t : Tree). paths.entries t.nodes) c.self.view_is
