-- A status is computed from the worktree, the submodules and the paths that are asked about, comparison by sizes and ids, this
-- conversion of line ends, no blobs and no listings.
use Rattle.std.specs.FinMap as ids
use Rattle.std.specs.Prelude.{false}
use Rattle.git_attributes.specs.declared.clean.CleanFilter.{CleanFilter}
use Rattle.status_base.specs.Looked.{guarded}
use Rattle.status_base.specs.Objects.{Contents}
use Rattle.status_base.specs.declared.worktree.guarded.GuardedWorktree.{GuardedWorktree}
use Rattle.status_base.specs.declared.worktree.lister.NoLister.{NoLister}
use Rattle.status_call.specs.declared.index_as_worktree.inputs.Inputs.{Inputs}
use Rattle.status_compare.specs.declared.compare.FastEq.{FastEq}
use Rattle.git_status.specs.declared.asked.Asked.{Asked}

abbrev pub asked_inputs : {W S P A H : Type 0} → Asked W S P A H → CleanFilter → Inputs (GuardedWorktree W) FastEq S Contents P CleanFilter NoLister
asked_inputs asked filter = record {
  worktree = guarded asked.worktree false;
  compare = record {};
  submodule = asked.submodules;
  objects = ids.empty;
  pathspec = asked.paths;
  filter = filter;
  lister = record {};
}
