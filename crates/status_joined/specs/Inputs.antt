-- A caller's interfaces in one value. Their specification is the same whether the guard allows listings or not, so it doesn't
-- here.
use Rattle.std.specs.Borrow.{Bor}
use Rattle.std.specs.Prelude.{false}
use Rattle.status_base.specs.Looked.{guarded}
use Rattle.status_joined.specs.declared.index_as_worktree_with_renames.inputs.Inputs.{Inputs}
use Rattle.status_joined.specs.declared.index_as_worktree_with_renames.types.Context.{Context}

abbrev pub inputs_of : {W C S O P T L K X : Type 0} → Bor W → C → S → O → Context P T L K X → Inputs W C S O P T L K X
inputs_of worktree compare submodule objects context = record {
  worktree = worktree;
  status = record {
    worktree = guarded worktree false;
    compare = compare;
    submodule = submodule;
    objects = objects;
    pathspec = context.pathspec;
    filter = context.filter;
    lister = context.lister;
  };
  walk = context.dirwalk.walk;
  tracker = context.tracker;
  should_interrupt = context.should_interrupt;
}
