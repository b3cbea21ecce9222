-- A joined status depends on the specifications of all interfaces passed.
use Rattle.std.specs.Prelude.{Bool, List, Result}
use Rattle.status_index.specs.Entries.{IndexEntry}
use Rattle.status_index.specs.declared.id.HashKind.{HashKind}
use Rattle.status_call.specs.Query.{Query}
use Rattle.status_call.specs.declared.index_as_worktree.inputs.Settings.{Settings}
use Rattle.status_rewrites.specs.TrackedChanges.{Changed}
use Rattle.status_rewrites.specs.Trackers.{TrackerFault}
use Rattle.status_rewrites.specs.declared.tracker.Pair.{Pair}
use Rattle.status_joined.specs.NodeIds.{Identifying}
use Rattle.status_joined.specs.Walkings.{Walking}

-- T is the type of a comparer's report of a change, U of a submodule's.
pub record JoinedQuery (T U : Type 0) : Type 1 where
  -- The status of the index.
  pub status : Settings → Query T U
  -- The walk, for the index's entries.
  pub walking : List IndexEntry → Walking
  -- The ids of nodes.
  pub identifying : HashKind → Identifying
  -- The results that the tracker may return, for its changes and by whether empty files are tracked.
  pub pairs : List Changed → Bool → Result (List Pair) TrackerFault → Type 0
  -- Whether there is an interrupt flag.
  pub interruptible : Bool
