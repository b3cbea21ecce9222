-- The joined theorem: the reports and the result of a status with untracked files, renames and copies.
use Rattle.std.specs.Prelude.{◌≡◌, ◌⊎◌, ◌<◌, Bool, IsTrue, List, [], ◌++◌, length, Option, is_some, Result, IfOk, IfErr, ⊤}
use Rattle.std.specs.Borrow.{Bor}
use Rattle.std.specs.List.Sorted.{IsSorted}
use Rattle.status_index.specs.States.{index_of}
use Rattle.status_index.specs.declared.state.State.{State}
use Rattle.status_call.specs.Inputs.{settings}
use Rattle.status_call.specs.Query.{Query}
use Rattle.status_call.specs.StatusTheorem.{IsBeginning}
use Rattle.status_call.specs.declared.index_as_worktree.types.Outcome.{Outcome as StatusOutcome}
use Rattle.status_joined.specs.declared.index_as_worktree_with_renames.inputs.Inputs.{Inputs}
use Rattle.status_joined.specs.declared.index_as_worktree_with_renames.types.Context.{Context}
use Rattle.status_joined.specs.BothHalves.{IsHalfFault}
use Rattle.status_joined.specs.Inputs.{inputs_of}
use Rattle.status_joined.specs.JoinedQuery.{JoinedQuery}
use Rattle.status_joined.specs.Walkings.{Walking, wanted_walk}
use Rattle.status_rewrites.specs.TrackedChanges.{Changed}
use Rattle.status_rewrites.specs.Trackers.{TrackerFault}
use Rattle.status_rewrites.specs.declared.tracker.Pair.{Pair}
use Rattle.status_walk.specs.declared.walk.Outcome.{Outcome as WalkOutcome}
use Rattle.status_joined.specs.declared.index_as_worktree_with_renames.error.Error.{Error}
use Rattle.status_joined.specs.declared.index_as_worktree_with_renames.error.Error.TheVariants.{DirWalk, Memory, TrackedFileModifications}
use Rattle.status_joined.specs.declared.index_as_worktree_with_renames.types.Options.{Options}
use Rattle.status_joined.specs.declared.index_as_worktree_with_renames.types.Outcome.{Outcome}
use Rattle.status_joined.specs.NodeIds.{Identifying}
use Rattle.status_joined.specs.Items.{Item, Reported}
use Rattle.status_joined.specs.Joined.{IsListFault, IsReportedOf, tracked_options}
use Rattle.status_joined.specs.Listing.{HasList}
use Rattle.status_joined.specs.Summaries.{reported_cmp}

module _ {T U : Type 0} (query : Query T U) (options : Options) (index : State) (interruptible : Bool) (walking : Option Walking) (ids : Identifying) (tracks : List Changed → Bool → Result (List Pair) TrackerFault → Type 0) where
  -- All reports, with the outcomes of both halves and of the renames and copies.
  pub record IsWhole (reported : List (Reported T U)) (o : Outcome) : Type 0 where
    pub list : List (Item T U)
    pub has : HasList query options index interruptible walking list o.tracked_file_modification o.dirwalk
    pub is_reported : IsReportedOf ids options.object_hash tracks options.rewrites list reported o.rewrites
    -- With sorting: by each report's path, and at equal paths records before nodes.
    pub order : IsTrue (is_some options.sorting) → IsSorted reported_cmp reported

  -- Both halves succeeded, and this is the fault of their list.
  pub record IsLateFault (e : Error) : Type 0 where
    pub tracked : StatusOutcome
    pub walked : Option WalkOutcome
    pub list : List (Item T U)
    pub has : HasList query options index interruptible walking list tracked walked
    pub fault : IsListFault ids options.object_hash tracks options.rewrites list e

  -- The fault of a half; or, if both succeeded, of their list; or memory ran out.
  abbrev pub IsFault : Error → Type 0
  IsFault (DirWalk e) = IsHalfFault query options index interruptible walking (DirWalk e)
  IsFault (TrackedFileModifications e) = IsHalfFault query options index interruptible walking (TrackedFileModifications e)
  IsFault Memory = ⊤
  IsFault e = IsLateFault e

  -- A beginning of all reports, and not all of them.
  pub record IsCutShort (reported : List (Reported T U)) : Type 0 where
    pub whole : List (Reported T U)
    pub outcome : Outcome
    pub is_whole : IsWhole whole outcome
    pub beginning : IsBeginning reported whole
    pub short : length reported < length whole

  -- The reports and the result of a call over any worktree, by whether the collector may fail. Some claims about a part need it
  -- to be modelled.
  pub record IsJoinedStatus (may_fail : Bool) (old : List (Reported T U)) (result : Result Outcome Error) (new : List (Reported T U)) : Type 0 where
    pub more : List (Reported T U)
    pub grew : new ≡ old ++ more
    -- Ok: all reports.
    pub complete : IfOk result (IsWhole more)
    -- An error: a fault of a part.
    pub fault : IfErr result IsFault
    -- On an error nothing was reported; or the collector may fail, memory ran out, and a proper beginning was reported.
    pub quiet : IfErr result (λ e. (more ≡ []) ⊎ (IsTrue may_fail × ((e ≡ Memory) × IsCutShort more)))

-- The same for a query: its status by the options, its walk if one is wanted, and its ids by their kind.
abbrev pub IsJoinedReport : {T U : Type 0} → JoinedQuery T U → Options → State → Bool → List (Reported T U) → Result Outcome Error → List (Reported T U) → Type 0
IsJoinedReport q options index may_fail old result new =
    IsJoinedStatus (q.status (settings (tracked_options options) index)) options index q.interruptible
    (wanted_walk options.dirwalk (q.walking (index_of index))) (q.identifying options.object_hash) q.pairs may_fail old result new

-- The joined theorem. This is the clause of the call, by its arguments and by the specification of its collector.
abbrev pub IsJoined : {W C S O P L K X A T U V : Type 0} → (Inputs W C S O P A L K X → JoinedQuery T U) → Bor W → C → S → O → Context P A L K X → Options → State → Bool → (V → List (Reported T U)) → V → Result Outcome Error → V → Type 0
IsJoined query worktree compare submodule objects context options index may_fail visits old result new =
    IsJoinedReport (query (inputs_of worktree compare submodule objects context)) options index may_fail (visits old) result (visits new)
