-- A status depends on options, timestamp, and the specifications of all interfaces passed. Here they are put together.
use Rattle.std.specs.Borrow.{Bor}
use Rattle.std.specs.Prelude.{false}
use Rattle.std.specs.FinMap as ids
use Rattle.status_base.specs.Looked.{guarded}
use Rattle.status_base.specs.Objects.{Contents}
use Rattle.status_base.specs.declared.worktree.guarded.GuardedWorktree.{GuardedWorktree}
use Rattle.status_base.specs.declared.worktree.filter.NoFilter.{NoFilter}
use Rattle.status_base.specs.declared.worktree.lister.NoLister.{NoLister}
use Rattle.status_base.specs.declared.worktree.submodule.NoSubmodules.{NoSubmodules}
use Rattle.status_index.specs.declared.state.State.{State}
use Rattle.status_index.specs.States.{timestamp_of}
use Rattle.status_call.specs.declared.index_as_worktree.inputs.Inputs.{Inputs}
use Rattle.status_call.specs.declared.index_as_worktree.inputs.Settings.{Settings}
use Rattle.status_call.specs.declared.index_as_worktree.types.Context.{Context}
use Rattle.status_call.specs.declared.index_as_worktree.types.Options.{Options}

-- The interfaces that a caller passes. Their specification is the same whether listings may replace `lstat` or not, so this is
-- false here.
abbrev pub inputs_of : {W C S O P T L : Type 0} → Bor W → C → S → O → Context P T L
    → Inputs (GuardedWorktree W) C S O P T L
inputs_of worktree compare submodule objects context = record {
  worktree = guarded worktree false;
  compare = compare;
  submodule = submodule;
  objects = objects;
  pathspec = context.pathspec;
  filter = context.filter;
  lister = context.lister;
}

-- The usual interfaces, with a worktree, a comparer and a pathspec: no submodule, no blob, no conversion, and no listings.
abbrev pub usual : {W C P : Type 0} → Bor W → C → P
    → Inputs (GuardedWorktree W) C NoSubmodules Contents P NoFilter NoLister
usual worktree compare pathspec = record {
  worktree = guarded worktree false;
  compare = compare;
  submodule = record {};
  objects = ids.empty;
  pathspec = pathspec;
  filter = record {};
  lister = record {};
}

-- The part of the options that decides entries, with the index's timestamp.
abbrev pub settings : Options → State → Settings
settings options index =
    record {
      timestamp = timestamp_of index;
      stat = options.stat;
      fs = options.fs;
      fscache = options.fscache;
    }
