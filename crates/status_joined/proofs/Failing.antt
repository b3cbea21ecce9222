-- From a half that failed to the call's error.
use Rattle.std.proofs.Common.{Bool, Option}
use Rattle.status_index.specs.declared.fault.Fault.TheVariants.{NotFound, NotADirectory, PermissionDenied, Interrupted, IllformedUtf8, UnexpectedEnd, NotNormal, Memory, Other}
use Rattle.status_index.specs.declared.state.State.{State}
use Rattle.status_base.specs.declared.worktree.objects.FindError.TheVariants as finds
use Rattle.status_compare.specs.declared.error.Error.{Error}
use Rattle.status_compare.specs.declared.error.Error.TheVariants as statuses
use Rattle.status_call.specs.Query.{Query}
use Rattle.status_walk.specs.declared.walk.WalkError.{WalkError}
use Rattle.status_walk.specs.declared.walk.WalkError.TheVariants as walks
use Rattle.status_joined.specs.BothHalves.{HasWalked, IsHalfFault, IsWalkFailure}
use Rattle.status_joined.specs.Errors.{error_of_status, error_of_walk}
use Rattle.status_joined.specs.TrackedHalf.{IsTrackedFailure}
use Rattle.status_joined.specs.Walkings.{Walking}
use Rattle.status_joined.specs.declared.index_as_worktree_with_renames.types.Options.{Options}

module _ {T U : Type 0} (query : Query T U) (options : Options) (index : State) (interruptible : Bool) (walking : Option Walking) where
  -- The walk failed.
  pub walk_fault : (e : WalkError) → IsWalkFailure walking e → IsHalfFault query options index interruptible walking (error_of_walk e)
  walk_fault walks.Memory met = tt
  walk_fault (walks.Fault path NotFound) met = met
  walk_fault (walks.Fault path NotADirectory) met = met
  walk_fault (walks.Fault path PermissionDenied) met = met
  walk_fault (walks.Fault path Interrupted) met = met
  walk_fault (walks.Fault path IllformedUtf8) met = met
  walk_fault (walks.Fault path UnexpectedEnd) met = met
  walk_fault (walks.Fault path NotNormal) met = met
  walk_fault (walks.Fault path Memory) met = tt
  walk_fault (walks.Fault path (Other code)) met = met

  -- The status failed, and the walk didn't.
  pub tracked_fault : (e : Error) → HasWalked interruptible walking × IsTrackedFailure query options.tracked_file_modifications.thread_limit index e → IsHalfFault query options index interruptible walking (error_of_status e)
  tracked_fault statuses.Memory met = tt
  tracked_fault statuses.IllformedUtf8 met = met
  tracked_fault statuses.Time met = met
  tracked_fault (statuses.Io NotFound) met = met
  tracked_fault (statuses.Io NotADirectory) met = met
  tracked_fault (statuses.Io PermissionDenied) met = met
  tracked_fault (statuses.Io Interrupted) met = met
  tracked_fault (statuses.Io IllformedUtf8) met = met
  tracked_fault (statuses.Io UnexpectedEnd) met = met
  tracked_fault (statuses.Io NotNormal) met = met
  tracked_fault (statuses.Io Memory) met = tt
  tracked_fault (statuses.Io (Other code)) met = met
  tracked_fault (statuses.Find finds.Missing) met = met
  tracked_fault (statuses.Find finds.Memory) met = tt
  tracked_fault (statuses.SubmoduleStatus path text) met = met
  tracked_fault statuses.SpawnThread met = met
