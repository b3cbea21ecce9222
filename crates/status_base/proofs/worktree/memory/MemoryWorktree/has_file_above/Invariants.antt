use Rattle.std.proofs.Common.{◌≡◌, false}
use Rattle.std.specs.List.{list_any}
use Rattle.std.specs.FinMap as paths
use Rattle.status_base.specs.Paths.{directories_below}
use Rattle.status_base.specs.MemoryTree.{is_no_directory}
use Rattle.status_base.proofs.worktree.memory.MemoryWorktree.has_file_above.Given as goal

abbrev pub invariant-loop-end : goal.invariant-loop-end
invariant-loop-end l = list_any (λ d. is_no_directory (paths.get l.self.nodes d)) (directories_below l.path l.end) ≡ false
