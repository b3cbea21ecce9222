-- Each failure but a failed output has a line. Each fault is a failure of its own, except that out of memory is one.
use Rattle.std.specs.Prelude.{◌≡◌, ◌⊎◌, ℕ, Bool, true, false, List, [], ◌∷◌, ◌++◌, codes, decimal, Option, Result}
use Rattle.status_index.specs.declared.fault.Fault.{Fault}
use Rattle.status_index.specs.declared.fault.Fault.TheVariants as faults
use Rattle.status_index.specs.declared.state.IndexError.{IndexError}
use Rattle.status_index.specs.declared.state.IndexError.TheVariants as index_errors
use Rattle.status_base.specs.declared.worktree.node.TreeError.{TreeError}
use Rattle.status_base.specs.declared.worktree.node.TreeError.TheVariants as tree_errors
use Rattle.status_compare.specs.declared.error.Error.{Error}
use Rattle.status_compare.specs.declared.error.Error.TheVariants as errors
use Rattle.status_joined.specs.declared.index_as_worktree_with_renames.error.Error.{Error as JoinedError}
use Rattle.status_joined.specs.declared.index_as_worktree_with_renames.error.Error.TheVariants as joined
use Rattle.status_walk.specs.declared.walk.WalkError.{WalkError}
use Rattle.status_walk.specs.declared.walk.WalkError.TheVariants as walks
use Rattle.status_world.specs.declared.world.event.Refusal.{Refusal}
use Rattle.status_world.specs.declared.world.event.Refusal.TheVariants as refusals
use Rattle.status_profile.specs.declared.error.Key.{Key}
use Rattle.status_profile.specs.declared.error.Key.TheVariants as keys
use Rattle.status_profile.specs.declared.error.ProfileError.{ProfileError}
use Rattle.status_profile.specs.declared.error.ProfileError.TheVariants as profiles
use Rattle.status_cli.specs.declared.failure.Failure.{Failure}
use Rattle.status_cli.specs.declared.failure.Failure.TheVariants as failures
use Rattle.status_cli.specs.Lines.{line, path_text}
use Rattle.text_output.specs.Written.{IsBegun}
use Rattle.status_cli.specs.Printing.{IsAllWritten}

abbrev pub fault_text : Fault → List ℕ
fault_text faults.NotFound = codes "not found"
fault_text faults.NotADirectory = codes "not a directory"
fault_text faults.PermissionDenied = codes "permission denied"
fault_text faults.Interrupted = codes "interrupted"
fault_text faults.IllformedUtf8 = codes "ill-formed UTF-8"
fault_text faults.UnexpectedEnd = codes "unexpected end"
fault_text faults.NotNormal = codes "not normal"
fault_text faults.Memory = codes "out of memory"
fault_text (faults.Other number) = codes "other " ++ decimal number

abbrev pub key_text : Key → List ℕ
key_text keys.Hash = codes "hash"
key_text keys.Clock = codes "clock"
key_text keys.Timestamp = codes "timestamp"
key_text keys.Options = codes "options"
key_text keys.Index = codes "index"
key_text keys.Worktree = codes "worktree"
key_text keys.Events = codes "events"

abbrev pub index_error_text : IndexError → List ℕ
index_error_text (index_errors.EmptyPath at) = codes "empty path at " ++ decimal at
index_error_text (index_errors.NotAscending at) = codes "not ascending at " ++ decimal at
index_error_text (index_errors.MixedHash at) = codes "mixed hash at " ++ decimal at
index_error_text index_errors.Memory = codes "out of memory"

abbrev pub profile_error_text : ProfileError → List ℕ
profile_error_text profiles.NotJson = codes "not JSON"
profile_error_text (profiles.Bad key) = codes "bad profile: " ++ key_text key
profile_error_text (profiles.Index error) = codes "bad index: " ++ index_error_text error
profile_error_text profiles.Memory = codes "out of memory"

abbrev pub tree_error_text : TreeError → List ℕ
tree_error_text tree_errors.BadPath = codes "bad path"
tree_error_text tree_errors.InTheWay = codes "in the way"
tree_error_text tree_errors.Memory = codes "out of memory"

-- why a status failed
abbrev pub error_text : Error → List ℕ
error_text errors.IllformedUtf8 = codes "ill-formed UTF-8"
error_text errors.Time = codes "time"
error_text (errors.Io fault) = fault_text fault
error_text (errors.Find _) = codes "missing object"
error_text (errors.SubmoduleStatus path _) = codes "submodule " ++ path_text path
error_text errors.SpawnThread = codes "no thread"
error_text errors.Memory = codes "out of memory"

abbrev pub walk_error_text : WalkError → List ℕ
walk_error_text (walks.Fault _ fault) = codes "walk: " ++ fault_text fault
walk_error_text walks.Memory = codes "out of memory"

-- why a status with untracked files, renames or sorted lines failed
abbrev pub joined_error_text : JoinedError → List ℕ
joined_error_text (joined.TrackedFileModifications error) = error_text error
joined_error_text (joined.DirWalk error) = walk_error_text error
joined_error_text joined.SpawnThread = codes "no thread"
joined_error_text joined.SetAttributeContext = codes "attributes"
joined_error_text (joined.OpenWorktreeFile fault) = codes "open: " ++ fault_text fault
joined_error_text (joined.HashFile fault) = codes "hash: " ++ fault_text fault
joined_error_text (joined.ReadLink fault) = codes "read link: " ++ fault_text fault
joined_error_text (joined.ConvertToGit fault) = codes "convert: " ++ fault_text fault
joined_error_text (joined.RewriteTracker _) = codes "tracker"
joined_error_text joined.Memory = codes "out of memory"

-- why a history can't begin so, or an event can't happen
abbrev pub refusal_text : Refusal → List ℕ
refusal_text refusals.ClockEnd = codes "clock end"
refusal_text refusals.BadPath = codes "bad path"
refusal_text refusals.InTheWay = codes "in the way"
refusal_text refusals.TooLarge = codes "too large"
refusal_text refusals.NotAFile = codes "not a file"
refusal_text refusals.StampLater = codes "stamp later"
refusal_text refusals.Interrupted = codes "interrupted"
refusal_text (refusals.Run _) = codes "run failed"
refusal_text refusals.Memory = codes "out of memory"
refusal_text refusals.BadMoment = codes "bad moment"
refusal_text refusals.OtherIndex = codes "other index"

abbrev pub is_submodule_fault : Error → Bool
is_submodule_fault (errors.SubmoduleStatus _ _) = true
is_submodule_fault _ = false

-- whether it is a fault of a submodule, whose path takes memory
abbrev pub names_submodule : Failure → Bool
names_submodule (failures.Status error) = is_submodule_fault error
names_submodule (failures.Joined (joined.TrackedFileModifications error)) = is_submodule_fault error
names_submodule _ = false

-- the line of a failure, for a file of this name. Failures are as `Failures` makes them: out of memory is one of its own. For an
-- output that can't be written there is no line
abbrev pub failure_line : List ℕ → Failure → List ℕ
failure_line name failures.Unreadable = line (codes "cannot read " ∷ name ∷ [])
failure_line name (failures.Profile error) = line (profile_error_text error ∷ [])
failure_line name (failures.Worktree error at) = line (codes "bad worktree: " ∷ tree_error_text error ∷ codes " at " ∷ decimal at ∷ [])
failure_line name (failures.Status error) = line (codes "status failed: " ∷ error_text error ∷ [])
failure_line name (failures.Joined error) = line (codes "status failed: " ∷ joined_error_text error ∷ [])
failure_line name (failures.Start refusal) = line (codes "refused start: " ∷ refusal_text refusal ∷ [])
failure_line name (failures.Event refusal at) = line (codes "refused " ∷ decimal at ∷ codes ": " ∷ refusal_text refusal ∷ [])
failure_line name failures.Output = []
failure_line name failures.Unwritable = line (codes "cannot write " ∷ name ∷ [])
failure_line name failures.Memory = line (codes "out of memory" ∷ [])

-- the line of a status that failed at the submodule with this path
abbrev pub submodule_line : List ℕ → List ℕ
submodule_line path = line (codes "status failed: " ∷ (codes "submodule " ++ path_text path) ∷ [])

-- the line that memory ran out
abbrev pub memory_line : List ℕ
memory_line = line (codes "out of memory" ∷ [])

-- a line was written; or, if it names a submodule, whose path takes memory, the line that memory ran out
abbrev pub IsFaultWritten : {T : Type 0} → Bool → List ℕ → Option (List ℕ) → Result T Failure → Option (List ℕ) → Type 0
IsFaultWritten names text old result new = IsAllWritten text old result new ⊎ ((names ≡ true) × IsAllWritten memory_line old result new)

-- a beginning of a failure's line was written; or, if it names a submodule, of the line that memory ran out
abbrev pub IsFaultReported : List ℕ → Failure → Option (List ℕ) → Option (List ℕ) → Type 0
IsFaultReported name failure old new = IsBegun (failure_line name failure) old new ⊎ ((names_submodule failure ≡ true) × IsBegun memory_line old new)
