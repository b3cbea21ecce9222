-- The failure of a command for each error of the library. Out of memory is one failure, wherever it is met.
use Rattle.std.specs.Prelude.{ℕ, Bool, true, false, if◌then◌else◌}
use Rattle.status_index.specs.declared.fault.Fault.{Fault}
use Rattle.status_index.specs.declared.fault.Fault.TheVariants as faults
use Rattle.status_base.specs.declared.worktree.node.TreeError.{TreeError}
use Rattle.status_base.specs.declared.worktree.node.TreeError.TheVariants as tree_errors
use Rattle.status_base.specs.declared.worktree.objects.FindError.{FindError}
use Rattle.status_base.specs.declared.worktree.objects.FindError.TheVariants as find_errors
use Rattle.status_compare.specs.declared.error.Error.{Error}
use Rattle.status_compare.specs.declared.error.Error.TheVariants as errors
use Rattle.status_joined.specs.declared.index_as_worktree_with_renames.error.Error.{Error as JoinedError}
use Rattle.status_joined.specs.declared.index_as_worktree_with_renames.error.Error.TheVariants as joined
use Rattle.status_rewrites.specs.declared.tracker.TrackerError.{TrackerError}
use Rattle.status_rewrites.specs.declared.tracker.TrackerError.TheVariants as trackers
use Rattle.status_walk.specs.declared.walk.WalkError.{WalkError}
use Rattle.status_walk.specs.declared.walk.WalkError.TheVariants as walks
use Rattle.status_world.specs.declared.world.event.Refusal.{Refusal}
use Rattle.status_world.specs.declared.world.event.Refusal.TheVariants as refusals
use Rattle.status_index.specs.declared.state.IndexError.{IndexError}
use Rattle.status_index.specs.declared.state.IndexError.TheVariants as index_errors
use Rattle.status_profile.specs.declared.error.ProfileError.{ProfileError}
use Rattle.status_profile.specs.declared.error.ProfileError.TheVariants as profiles
use Rattle.status_cli.specs.declared.failure.Failure.{Failure}
use Rattle.status_cli.specs.declared.failure.Failure.TheVariants as failures

abbrev pub is_memory_fault : Fault → Bool
is_memory_fault faults.Memory = true
is_memory_fault _ = false

abbrev pub is_memory_find : FindError → Bool
is_memory_find find_errors.Memory = true
is_memory_find _ = false

-- whether memory ran out in a status, whoever met it
abbrev pub is_memory_error : Error → Bool
is_memory_error errors.Memory = true
is_memory_error (errors.Io fault) = is_memory_fault fault
is_memory_error (errors.Find error) = is_memory_find error
is_memory_error _ = false

abbrev pub is_memory_walk : WalkError → Bool
is_memory_walk (walks.Fault _ fault) = is_memory_fault fault
is_memory_walk walks.Memory = true

abbrev pub is_memory_tracker : TrackerError → Bool
is_memory_tracker trackers.Memory = true
is_memory_tracker _ = false

-- the same in a status with untracked files, renames or sorted lines
abbrev pub is_memory_joined : JoinedError → Bool
is_memory_joined (joined.TrackedFileModifications error) = is_memory_error error
is_memory_joined (joined.DirWalk error) = is_memory_walk error
is_memory_joined (joined.OpenWorktreeFile fault) = is_memory_fault fault
is_memory_joined (joined.HashFile fault) = is_memory_fault fault
is_memory_joined (joined.ReadLink fault) = is_memory_fault fault
is_memory_joined (joined.ConvertToGit fault) = is_memory_fault fault
is_memory_joined (joined.RewriteTracker error) = is_memory_tracker error
is_memory_joined joined.Memory = true
is_memory_joined _ = false

-- the same in a refusal
abbrev pub is_memory_refusal : Refusal → Bool
is_memory_refusal refusals.Memory = true
is_memory_refusal (refusals.Run error) = is_memory_error error
is_memory_refusal _ = false

-- of a text that isn't a profile
abbrev pub failure_of_index : IndexError → Failure
failure_of_index index_errors.Memory = failures.Memory
failure_of_index e = failures.Profile (profiles.Index e)

abbrev pub failure_of_profile : ProfileError → Failure
failure_of_profile profiles.Memory = failures.Memory
failure_of_profile (profiles.Index e) = failure_of_index e
failure_of_profile e = failures.Profile e

abbrev pub failure_of_status : Error → Failure
failure_of_status e = if is_memory_error e then failures.Memory else failures.Status e

abbrev pub failure_of_joined : JoinedError → Failure
failure_of_joined e = if is_memory_joined e then failures.Memory else failures.Joined e

abbrev pub failure_of_start : Refusal → Failure
failure_of_start r = if is_memory_refusal r then failures.Memory else failures.Start r

-- of the event at this position
abbrev pub failure_of_event : Refusal → ℕ → Failure
failure_of_event r at = if is_memory_refusal r then failures.Memory else failures.Event r at

-- of the node at this position
abbrev pub failure_of_node : TreeError → ℕ → Failure
failure_of_node tree_errors.Memory at = failures.Memory
failure_of_node e at = failures.Worktree e at
