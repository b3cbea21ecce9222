-- The lines of a status that meets its theorem, and its failure if it fails; or a beginning if output or memory fails.
use Rattle.std.specs.Prelude.{◌≡◌, ◌≢◌, ◌⊎◌, IsTrue, Bool, true, false, ℕ, List, [], ◌++◌, Option, Some, None, Result, Ok, Err, IfOk, if◌then◌else◌}
use Rattle.std.specs.List.{flat_map}
use Rattle.std.specs.Io.KnownBytes.{Appends}
use Rattle.status_index.specs.declared.id.HashKind.{HashKind}
use Rattle.status_index.specs.declared.state.State.{State}
use Rattle.status_compare.specs.declared.error.Error.{Error}
use Rattle.status_compare.specs.declared.error.Error.TheVariants.{SpawnThread}
use Rattle.status_call.specs.declared.index_as_worktree.apply.ApplyChange.{ApplyChange}
use Rattle.status_call.specs.declared.index_as_worktree.types.Outcome.{Outcome}
use Rattle.status_call.specs.IndexChanges.{changes_of}
use Rattle.status_call.specs.Query.{Query}
use Rattle.status_call.specs.StatusTheorem.{IsStatusReport}
use Rattle.status_call.specs.Visits.{Visit}
use Rattle.status_joined.specs.Items.{Reported}
use Rattle.status_joined.specs.JoinedTheorem.{IsJoinedStatus}
use Rattle.status_joined.specs.NodeIds.{Identifying}
use Rattle.status_joined.specs.Walkings.{Walking, wanted_walk}
use Rattle.status_joined.specs.declared.index_as_worktree_with_renames.error.Error.{Error as JoinedError}
use Rattle.status_joined.specs.declared.index_as_worktree_with_renames.types.Options.{Options as JoinedOptions}
use Rattle.status_joined.specs.declared.index_as_worktree_with_renames.types.Outcome.{Outcome as JoinedOutcome}
use Rattle.status_joined.specs.declared.index_as_worktree_with_renames.types.Sorting.TheVariants.{ByPathCaseSensitive}
use Rattle.status_rewrites.specs.Renames.{IsIdentityAnswer}
use Rattle.status_profile.specs.Options.{OptionValues}
use Rattle.status_cli.specs.declared.failure.Failure.{Failure}
use Rattle.status_cli.specs.declared.status.inputs.WantedChanges.{WantedChanges}
use Rattle.status_cli.specs.declared.status.inputs.WantedChanges.TheVariants.{Returned, Dropped}
use Rattle.status_cli.specs.Failures.{failure_of_joined, failure_of_status}
use Rattle.status_cli.specs.Lines.{entry_line, total_line, visit_line}
use Rattle.text_output.specs.Written.{IsBegun}
use Rattle.status_cli.specs.Printing.{IsPrinted, IsUnprinted}

-- the lines of records
abbrev pub visit_lines : {T U : Type 0} → List (Visit T U) → List ℕ
visit_lines visits = flat_map visit_line visits

-- the lines of entries
abbrev pub entry_lines : {T U : Type 0} → List (Reported T U) → List ℕ
entry_lines entries = flat_map entry_line entries

-- with `counts` the line of totals
abbrev pub totals_text : Bool → Outcome → List ℕ
totals_text counts outcome = if counts then total_line outcome else []

-- the outcome of a status, or the failure of its error
abbrev pub answered : Result Outcome Error → Result Outcome Failure
answered (Ok outcome) = Ok outcome
answered (Err error) = Err (failure_of_status error)

-- the same of a joined status, whose outcome is that of the index's part
abbrev pub joined_answered : Result JoinedOutcome JoinedError → Result Outcome Failure
joined_answered (Ok outcome) = Ok outcome.tracked_file_modification
joined_answered (Err error) = Err (failure_of_joined error)

-- the text after the records: with `counts` the totals, and nothing if the status failed
abbrev pub closing : Bool → Result Outcome Failure → List ℕ
closing counts (Ok outcome) = totals_text counts outcome
closing counts (Err _) = []

-- all of a text was printed, and the command succeeds or fails as the answer does; or the output can't be written or memory runs
-- out, and a beginning was
abbrev pub IsPrintEnd : {T : Type 0} → List ℕ → Result Outcome Failure → Option (List ℕ) → Result T Failure → Option (List ℕ) → Type 0
IsPrintEnd text (Ok _) old result new = IsPrinted text old result new
IsPrintEnd text (Err failure) old (Ok _) new = ⊥
IsPrintEnd text (Err failure) old (Err e) new = (Appends old new text × (e ≡ failure)) ⊎ (IsBegun text old new × IsUnprinted e)

-- the changes that records ask for, if they are to be returned
abbrev pub returned_changes : {T U : Type 0} → WantedChanges → List (Visit T U) → List ApplyChange
returned_changes Returned visits = changes_of visits
returned_changes Dropped visits = []

-- a status of this index was computed by this query; it wasn't interrupted if it succeeded; if it is modelled and this limit is one, it
-- wasn't refused a thread; its lines, with `counts` also its totals, were printed as it ended; and the changes that its records ask for
-- were returned, or dropped
pub record IsStatusPrinted {T U : Type 0} (query : Query T U) (limit : Option ℕ) (index : State) (counts : Bool) (wanted : WantedChanges) (old : Option (List ℕ)) (result : Result (List ApplyChange) Failure) (new : Option (List ℕ)) : Type 0 where
  pub visits : List (Visit T U)
  pub answer : Result Outcome Error
  pub met : IsStatusReport query index [] answer visits
  pub whole : IfOk answer (λ outcome. outcome.interrupted ≡ false)
  pub alone : IsTrue query.modelled → limit ≡ Some 1 → answer ≢ Err SpawnThread
  pub ended : IsPrintEnd (visit_lines visits ++ closing counts (answered answer)) (answered answer) old result new
  pub returned : IfOk result (λ changes. changes ≡ returned_changes wanted visits)

-- the options of a joined status: its lines are sorted by path if the profile has `sort`, it has the untracked files with
-- `untracked`, and with `renames` the renames of content that isn't empty; ids are of the profile's kind
abbrev pub joined_options : OptionValues → HashKind → JoinedOptions
joined_options o hash = record {
  sorting = if o.sort then Some ByPathCaseSensitive else None;
  object_hash = hash;
  tracked_file_modifications = o.status;
  fscache = o.status.fscache;
  dirwalk = o.untracked;
  rewrites = if o.renames then Some (record { track_empty = false }) else None;
}

-- the inputs of a joined status: the query of the index's status, what there is to walk, and the ids of nodes
pub record JoinedInputs (T U : Type 0) : Type 0 where
  pub query : Query T U
  pub walking : Walking
  pub ids : Identifying

-- a joined status of this index by a profile's options, without an interrupt flag and with renames by equal content, returned this, and
-- reported so to its collector, which may run out of memory or never does
abbrev pub IsJoinedAnswer : {T U : Type 0} → JoinedInputs T U → OptionValues → HashKind → State → Bool → List (Reported T U) → Result JoinedOutcome JoinedError → List (Reported T U) → Type 0
IsJoinedAnswer inputs o hash index may_fail old answer new =
    IsJoinedStatus inputs.query (joined_options o hash) index false (wanted_walk o.untracked inputs.walking) inputs.ids IsIdentityAnswer may_fail old answer new

-- a joined status of this index, reported to a list that may run out of memory, was computed from these inputs; and its lines, with `counts` also its totals, were printed as it ended
pub record IsJoinedPrinted {T U A : Type 0} (inputs : JoinedInputs T U) (o : OptionValues) (hash : HashKind) (index : State) (old : Option (List ℕ)) (result : Result A Failure) (new : Option (List ℕ)) : Type 0 where
  pub entries : List (Reported T U)
  pub answer : Result JoinedOutcome JoinedError
  pub met : IsJoinedAnswer inputs o hash index true [] answer entries
  pub ended : IsPrintEnd (entry_lines entries ++ closing o.counts (joined_answered answer)) (joined_answered answer) old result new
