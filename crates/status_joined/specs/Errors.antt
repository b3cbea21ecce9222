-- The call's error for an error of each of its parts. Out of memory is one error, whichever part it comes from.
use Rattle.status_index.specs.declared.fault.Fault.TheVariants as faults
use Rattle.status_base.specs.declared.worktree.objects.FindError.TheVariants as finds
use Rattle.status_compare.specs.declared.error.Error.{Error as StatusError}
use Rattle.status_compare.specs.declared.error.Error.TheVariants as statuses
use Rattle.status_rewrites.specs.declared.rewrites.Refused.{Refused}
use Rattle.status_rewrites.specs.declared.rewrites.Refused.TheVariants as refusals
use Rattle.status_rewrites.specs.declared.tracker.TrackerError.{TrackerError}
use Rattle.status_rewrites.specs.declared.tracker.TrackerError.TheVariants as trackers
use Rattle.status_walk.specs.declared.id.IdError.{IdError}
use Rattle.status_walk.specs.declared.id.IdError.TheVariants.{Open, Hash, ReadLink, Convert}
use Rattle.status_walk.specs.declared.walk.WalkError.{WalkError}
use Rattle.status_walk.specs.declared.walk.WalkError.TheVariants as walks
use Rattle.status_joined.specs.declared.index_as_worktree_with_renames.error.Error.{Error}
use Rattle.status_joined.specs.declared.index_as_worktree_with_renames.error.Error.TheVariants as errors

-- For the status of the index.
abbrev pub error_of_status : StatusError → Error
error_of_status statuses.Memory = errors.Memory
error_of_status (statuses.Io faults.Memory) = errors.Memory
error_of_status (statuses.Find finds.Memory) = errors.Memory
error_of_status e = errors.TrackedFileModifications e

-- For a walk.
abbrev pub error_of_walk : WalkError → Error
error_of_walk walks.Memory = errors.Memory
error_of_walk (walks.Fault path faults.Memory) = errors.Memory
error_of_walk (walks.Fault path f) = errors.DirWalk (walks.Fault path f)

-- For the id of a node: if opening a file, reading it, reading a link, or the filter failed.
abbrev pub error_of_id : IdError → Error
error_of_id (Open faults.Memory) = errors.Memory
error_of_id (Hash faults.Memory) = errors.Memory
error_of_id (ReadLink faults.Memory) = errors.Memory
error_of_id (Convert faults.Memory) = errors.Memory
error_of_id (Open f) = errors.OpenWorktreeFile f
error_of_id (Hash f) = errors.HashFile f
error_of_id (ReadLink f) = errors.ReadLink f
error_of_id (Convert f) = errors.ConvertToGit f

-- For a tracker.
abbrev pub error_of_tracker : TrackerError → Error
error_of_tracker trackers.Memory = errors.Memory
error_of_tracker e = errors.RewriteTracker e

-- For a list that can't be rewritten.
abbrev pub error_of_refused : Refused → Error
error_of_refused refusals.Memory = errors.Memory
error_of_refused (refusals.BadPair at) = errors.RewriteTracker (trackers.BadPair at)
