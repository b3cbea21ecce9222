-- The two halves of a status: the records of the index's entries, and the nodes of the walk.
use Rattle.std.specs.Prelude.{◌≡◌, Bool, List, [], map, Option, Some, None, IfSome, Result, Ok, Err, ⊤}
use Rattle.status_index.specs.declared.fault.Fault.TheVariants as faults
use Rattle.status_index.specs.declared.state.State.{State}
use Rattle.status_base.specs.declared.worktree.objects.FindError.TheVariants as finds
use Rattle.status_compare.specs.declared.error.Error.TheVariants as statuses
use Rattle.status_call.specs.Query.{Query}
use Rattle.status_call.specs.RecorderVisits.{visit_of}
use Rattle.status_walk.specs.declared.walk.Outcome.{Outcome}
use Rattle.status_walk.specs.declared.walk.WalkError.{WalkError}
use Rattle.status_walk.specs.declared.walk.WalkError.TheVariants as walks
use Rattle.status_walk.specs.WalkedNodes.{Walked}
use Rattle.status_walk.specs.Walks.{IsWalkFault}
use Rattle.status_joined.specs.declared.index_as_worktree_with_renames.error.Error.{Error}
use Rattle.status_joined.specs.declared.index_as_worktree_with_renames.error.Error.TheVariants as errors
use Rattle.status_joined.specs.declared.index_as_worktree_with_renames.halves.Halves.{Halves}
use Rattle.status_joined.specs.declared.index_as_worktree_with_renames.types.Options.{Options}
use Rattle.status_joined.specs.Keeping.{kept_walked}
use Rattle.status_joined.specs.TrackedHalf.{IsTrackedHalf, IsTrackedFailure}
use Rattle.status_joined.specs.UntrackedHalf.{AreKeptNodes}
use Rattle.status_joined.specs.Walkings.{Walking}

-- The nodes that were kept of the walk, and how it ended. If there is no walk, none are kept.
abbrev pub IsWalkedHalf : Bool → Option Walking → List Walked → Option Outcome → Type 0
IsWalkedHalf interruptible (Some w) kept (Some o) = IfSome w (λ m. AreKeptNodes m interruptible kept o)
IsWalkedHalf interruptible None kept None = kept ≡ []
IsWalkedHalf interruptible (Some w) kept None = ⊥
IsWalkedHalf interruptible None kept (Some o) = ⊥

-- The walk succeeded.
abbrev pub HasWalked : Bool → Option Walking → Type 0
HasWalked interruptible w = (kept : List Walked) × ((o : Option Outcome) × IsWalkedHalf interruptible w kept o)

-- The walk failed with the specified fault, or memory ran out.
abbrev pub IsWalkFailure : Option Walking → WalkError → Type 0
IsWalkFailure None e = ⊥
IsWalkFailure (Some w) e = IfSome w (λ m. IsWalkFault m.fault e)

module _ {T U : Type 0} (query : Query T U) (options : Options) (index : State) (interruptible : Bool) (walking : Option Walking) where
  -- The walk's fault; or, if the walk succeeded, the status's; or memory ran out, which is always the error `Memory`.
  abbrev pub IsHalfFault : Error → Type 0
  IsHalfFault (errors.DirWalk walks.Memory) = ⊥
  IsHalfFault (errors.DirWalk (walks.Fault path faults.Memory)) = ⊥
  IsHalfFault (errors.DirWalk e) = IsWalkFailure walking e
  IsHalfFault (errors.TrackedFileModifications statuses.Memory) = ⊥
  IsHalfFault (errors.TrackedFileModifications (statuses.Io faults.Memory)) = ⊥
  IsHalfFault (errors.TrackedFileModifications (statuses.Find finds.Memory)) = ⊥
  IsHalfFault (errors.TrackedFileModifications e) = HasWalked interruptible walking × IsTrackedFailure query options.tracked_file_modifications.thread_limit index e
  IsHalfFault errors.Memory = ⊤
  IsHalfFault _ = ⊥

  -- The status's records and the walk's kept nodes, or the walk's failure, or otherwise the status's.
  abbrev pub IsHalves : Result (Halves T U) Error → Type 0
  IsHalves (Ok h) = IsTrackedHalf query index interruptible (map visit_of h.records.items) h.tracked × IsWalkedHalf interruptible walking (map kept_walked h.kept.items) h.walked
  IsHalves (Err e) = IsHalfFault e
