use Rattle.std.proofs.Common.{length, sym, ◌∙◌, arith, eq-eqb}
use Rattle.std.specs.FinMap as paths
use Rattle.status_base.specs.MemoryTree.{is_no_directory}
use Rattle.status_base.proofs.PathFronts.{any_front}
use Rattle.status_base.proofs.worktree.memory.MemoryWorktree.has_file_above.Goals as goal

pub returns-then-is_no_directory : goal.returns-then-is_no_directory
returns-then-is_no_directory c =
    let tree = c.args.self.now in let path = c.args.path.now in
    sym (any_front (λ d. is_no_directory (paths.get tree.nodes d)) path (length path) c.loop-end.end (omega arith) (eq-eqb _ _ c.if-byte-eq47.true) (sym c.is_no_directory.ensures ∙ c.if-is_no_directory.true))
