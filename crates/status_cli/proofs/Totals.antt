-- The totals of a status with untracked files, renames or sorted lines.
use Rattle.std.proofs.Common.{◌<◌, ◌^◌, Bool, List, Option, Result, Ok, Err, IfOk}
use Rattle.status_index.specs.declared.state.State.{State}
use Rattle.status_call.specs.Counts.{skipped_of}
use Rattle.status_call.specs.Query.{Query}
use Rattle.status_rewrites.specs.TrackedChanges.{Changed}
use Rattle.status_rewrites.specs.Trackers.{TrackerFault}
use Rattle.status_rewrites.specs.declared.tracker.Pair.{Pair}
use Rattle.status_joined.specs.declared.index_as_worktree_with_renames.error.Error.{Error}
use Rattle.status_joined.specs.declared.index_as_worktree_with_renames.types.Options.{Options}
use Rattle.status_joined.specs.declared.index_as_worktree_with_renames.types.Outcome.{Outcome}
use Rattle.status_joined.specs.NodeIds.{Identifying}
use Rattle.status_joined.specs.Items.{Reported}
use Rattle.status_joined.specs.JoinedTheorem.{IsJoinedStatus}
use Rattle.status_joined.specs.Walkings.{Walking}
use Rattle.status_cli.specs.Statuses.{joined_answered}

module _ {T U : Type 0} (query : Query T U) (options : Options) (index : State) (interruptible : Bool) (walking : Option Walking) (ids : Identifying) (tracks : List Changed → Bool → Result (List Pair) TrackerFault → Type 0) (may_fail : Bool) (old new : List (Reported T U)) where
  -- their skips have a sum
  pub skips_fit : (r : Result Outcome Error) → IsJoinedStatus query options index interruptible walking ids tracks may_fail old r new → IfOk (joined_answered r) (λ o. skipped_of o < 2 ^ 64)
  skips_fit (Ok o) met = met.complete.has.tracked.fits
  skips_fit (Err e) met = tt
