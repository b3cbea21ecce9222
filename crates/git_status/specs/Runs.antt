-- The output and the exit status of the command, over the bytes of an index file and a worktree.
use Rattle.std.specs.Prelude.{◌≡◌, ◌||◌, ◌⊎◌, ℕ, Bool, true, false, IsTrue, List, [], Option, Some, None, is_some, Result, Ok, Err, IfOk, All, ⊤, Vec}
use Rattle.std.specs.Global.{Global}
use Rattle.std.specs.List.{list_any}
use Rattle.std.specs.Result.{IsErrAnd}
use Rattle.std.specs.Io.KnownBytes.{Appends}
use Rattle.git_attributes.specs.Files.{File, attributes_of}
use Rattle.git_attributes.specs.Views.{attributes_view}
use Rattle.git_attributes.specs.declared.clean.CleanFilter.{CleanFilter}
use Rattle.git_index.specs.File.{IsFileOf}
use Rattle.git_index.specs.Refusals.{EndsWithChecksum}
use Rattle.git_index.specs.declared.fault.IndexFileError.TheVariants.{Checksum}
use Rattle.git_objects.specs.declared.fault.ObjectFault.{ObjectFault}
use Rattle.git_staged.specs.declared.error.TreeFault.{TreeFault}
use Rattle.git_untracked.specs.declared.folders.FolderFault.{FolderFault}
use Rattle.git_status.specs.Besides.{Beside, MayFind, beside_text, is_anything}
use Rattle.git_status.specs.Lines.{differs, visit_rows}
use Rattle.git_status.specs.declared.lines.LineStyle.{LineStyle}
use Rattle.status_call.specs.MayReturn.{MayReturn}
use Rattle.status_call.specs.EntrySights.{IsViewAllowed}
use Rattle.status_call.specs.Inputs.{settings}
use Rattle.status_call.specs.Query.{Query}
use Rattle.status_call.specs.Records.{verdict}
use Rattle.status_call.specs.StatusOf.{OneThreadSpawnsNone}
use Rattle.status_call.specs.StatusSeen.{IsStatusSeen}
use Rattle.status_call.specs.StatusTheorem.{IsStatusReport, considered_entries}
use Rattle.status_call.specs.Views.{AllAllowed, Allows, Views, as_seen}
use Rattle.status_call.specs.Visits.{Visit}
use Rattle.status_call.specs.declared.index_as_worktree.inputs.Settings.{Settings as StatusSettings}
use Rattle.status_call.specs.declared.index_as_worktree.types.EntryStatus.{EntryStatus}
use Rattle.status_call.specs.declared.index_as_worktree.types.Outcome.{Outcome}
use Rattle.status_compare.specs.declared.error.Error.{Error}
use Rattle.status_index.specs.declared.id.HashKind.{HashKind}
use Rattle.status_index.specs.States.{index_of, timestamp_of}
use Rattle.status_index.specs.declared.state.State.{State}
use Rattle.git_status.specs.Failures.{failure_of_status}
use Rattle.text_output.specs.Written.{IsBegun}
use Rattle.git_status.specs.Printing.{IsUnwritten}
use Rattle.git_status.specs.declared.asked.Settings.{Settings}
use Rattle.git_status.specs.declared.answer.Report.{Report}
use Rattle.git_status.specs.declared.failure.Failure.{Failure}
use Rattle.git_status.specs.declared.failure.Failure.TheVariants.{Attributes, Head, Index, Interrupted, Memory, Untracked}

-- How a worktree is compared with an index after line ends are converted, which attribute files may be found for an index, what
-- may be found next to its status, and the settings.
pub record Asking (T U : Type 0) : Type 1 where
  pub query : CleanFilter → StatusSettings → Query T U
  pub are_files : State → List File → Type 0
  pub may_find : MayFind
  -- Which results the worktree and the submodules may return.
  pub may_return : MayReturn U
  pub settings : Settings

-- Line ends are converted by what these attribute files say, which were found for this index, and by the settings.
pub record Converting {T U : Type 0} (a : Asking T U) (index : State) : Type 0 where
  pub files : List File
  pub found : a.are_files index files
  pub filter : CleanFilter
  pub attributes : attributes_view filter.attributes.now ≡ attributes_of files
  pub configured : filter.configured ≡ a.settings.conversions
  pub entries : filter.index.now ≡ index
  pub kind : filter.kind ≡ a.settings.kind

-- The bytes are an index file of this index, which has the settings' timestamp, and line ends are converted.
pub record ReadFile {T U : Type 0} (a : Asking T U) (bytes : List ℕ) : Type 0 where
  pub index : State
  pub version : ℕ
  pub extensions : List ℕ
  pub file : IsFileOf a.settings.kind bytes version (index_of index) extensions
  pub time : timestamp_of index ≡ a.settings.timestamp
  pub converting : Converting a index

-- The checksum of an index file is wrong.
abbrev pub IsWrongChecksum : HashKind → List ℕ → Failure → Type 0
IsWrongChecksum kind bytes f = (f ≡ Index Checksum) × (EndsWithChecksum kind bytes → ⊥)

-- The files of HEAD's commit can't be read.
abbrev pub IsHeadUnread : Failure → Type 0
IsHeadUnread f = (fault : TreeFault) × (f ≡ Head fault)

-- A folder in which untracked files are searched for, or an ignore file of the index, can't be read.
abbrev pub IsUntrackedUnread : Failure → Type 0
IsUntrackedUnread f = (fault : FolderFault) × (f ≡ Untracked fault)

-- Why staged changes and untracked files can't be found.
abbrev pub IsUnfound : Failure → Type 0
IsUnfound f = (f ≡ Memory) ⊎ (IsHeadUnread f ⊎ IsUntrackedUnread f)

-- An attribute file that is only in the index can't be read.
abbrev pub IsAttributesUnread : Failure → Type 0
IsAttributesUnread f = (path : Vec ℕ Global) × (fault : ObjectFault) × (f ≡ Attributes path fault)

-- Why the command ends before anything is printed: memory ran out, the index file's checksum is wrong, or HEAD, an attribute file or a
-- folder can't be read.
abbrev pub IsEarly : HashKind → List ℕ → Failure → Type 0
IsEarly kind bytes f = IsUnfound f ⊎ (IsWrongChecksum kind bytes f ⊎ IsAttributesUnread f)

-- Memory ran out, and nothing was printed.
abbrev pub IsOutOfMemory : Option (List ℕ) → Failure → Option (List ℕ) → Type 0
IsOutOfMemory old f new = (f ≡ Memory) × (new ≡ old)

module _ {T U : Type 0} where
  -- A record of an entry that differs from the worktree.
  abbrev pub is_difference : Visit T U → Bool
  is_difference v = differs v.status

  -- The lines of what is staged and of records, and after them those of untracked and of ignored nodes, in this style; nothing if the
  -- command is quiet.
  abbrev pub printed_text : Option LineStyle → Beside → List (Visit T U) → List ℕ
  printed_text (Some style) beside visits = beside_text style beside (visit_rows visits)
  printed_text None beside visits = []

  -- The command's report of a status: its outcome; it is dirty if a record is a difference, something is staged or a node is untracked, and a status that
  -- ended early has a difference.
  pub record IsReport (beside : Beside) (visits : List (Visit T U)) (answer : Result Outcome Error) (r : Report) : Type 0 where
    pub outcome : answer ≡ Ok r.outcome
    pub dirty : r.dirty ≡ (list_any is_difference visits || is_anything beside)
    pub early : r.outcome.interrupted ≡ true → list_any is_difference visits ≡ true

  -- Why a status has no report: it failed, or it ended early without a difference.
  abbrev pub IsUnreported : List (Visit T U) → Result Outcome Error → Failure → Type 0
  IsUnreported visits answer f =
      ((e : Error) × (answer ≡ Err e) × (f ≡ failure_of_status e)) ⊎ ((o : Outcome) × (answer ≡ Ok o) × (o.interrupted ≡ true) × (list_any is_difference visits ≡ false) × (f ≡ Interrupted))

  abbrev pub IsFound : Beside → List (Visit T U) → Result Outcome Error → Result Report Failure → Type 0
  IsFound beside visits answer (Ok r) = IsReport beside visits answer r
  IsFound beside visits answer (Err f) = IsUnreported visits answer f

  -- The command isn't quiet, and memory ran out before anything was printed, or the output can't be written after a beginning of the lines.
  pub record IsPrintFailure (lines : Option LineStyle) (beside : Beside) (visits : List (Visit T U)) (old new : Option (List ℕ)) (f : Failure) : Type 0 where
    pub loud : is_some lines ≡ true
    pub reason : IsOutOfMemory old f new ⊎ (IsUnwritten f × IsBegun (printed_text lines beside visits) old new)

  -- All lines were printed, and this was found; or they can't be printed.
  abbrev pub IsCommandEnd : Option LineStyle → Beside → List (Visit T U) → Result Outcome Error → Option (List ℕ) → Result Report Failure → Option (List ℕ) → Type 0
  IsCommandEnd lines beside visits answer old result new =
      (Appends old new (printed_text lines beside visits) × IsFound beside visits answer result) ⊎ IsErrAnd result (IsPrintFailure lines beside visits old new)

  -- A status of this index was computed by this query, as the status theorem has it, and over any worktree by what was seen; it ends early
  -- only if the command is quiet; with one thread none is refused.
  pub record IsComputed (query : Query T U) (may : MayReturn U) (index : State) (s : Settings) (answer : Result Outcome Error) (visits : List (Visit T U)) : Type 0 where
    pub met : IsStatusReport query index [] answer visits
    pub seen : ∥ IsStatusSeen query (IsViewAllowed may s.options.fscache) index [] answer visits ∥₁
    pub whole : is_some s.lines ≡ true → IfOk answer (λ o. o.interrupted ≡ false)
    pub alone : OneThreadSpawnsNone query s.options.thread_limit answer

  -- A status of this index was computed by this query, and over any worktree by what may be seen. It ends early only if it may be
  -- interrupted. With one thread none is refused.
  pub record IsComputedBy (query : Query T U) (allows : Allows U) (index : State) (interruptible : Bool) (limit : Option ℕ) (answer : Result Outcome Error) (visits : List (Visit T U)) : Type 0 where
    pub met : IsStatusReport query index [] answer visits
    pub seen : ∥ IsStatusSeen query allows index [] answer visits ∥₁
    pub whole : interruptible ≡ false → IfOk answer (λ o. o.interrupted ≡ false)
    pub alone : OneThreadSpawnsNone query limit answer

  -- A status of this index was computed, and the command ended so, with the findings next to it.
  pub record IsStatusRun (may_find : MayFind) (query : Query T U) (may : MayReturn U) (index : State) (s : Settings) (old : Option (List ℕ)) (result : Result Report Failure) (new : Option (List ℕ)) : Type 0 where
    pub beside : Beside
    pub found : may_find (index_of index) beside
    pub visits : List (Visit T U)
    pub answer : Result Outcome Error
    pub computed : IsComputed query may index s answer visits
    pub ended : IsCommandEnd s.lines beside visits answer old result new

  -- The status of an index that was read was printed.
  abbrev pub IsFileRun : Asking T U → List ℕ → Option (List ℕ) → Result Report Failure → Option (List ℕ) → Type 0
  IsFileRun a bytes old result new =
      (read : ReadFile a bytes) × IsStatusRun a.may_find (a.query read.converting.filter (settings a.settings.options read.index)) a.may_return read.index a.settings old result new

  -- The result of the command over the bytes of an index file that was read, and a worktree.
  unfoldable pub IsCommandRun : Asking T U → List ℕ → Option (List ℕ) → Result Report Failure → Option (List ℕ) → Type 0
  IsCommandRun a bytes old (Ok r) new = IsFileRun a bytes old (Ok r) new
  IsCommandRun a bytes old (Err f) new = IsFileRun a bytes old (Err f) new ⊎ (IsEarly a.settings.kind bytes f × (new ≡ old))

  -- With exit status 0 the command found no difference, and with 1 it found one.
  abbrev pub IsExit : Asking T U → List ℕ → Bool → Option (List ℕ) → Option (List ℕ) → Type 0
  IsExit a bytes dirty old new = (r : Report) × (r.dirty ≡ dirty) × IsCommandRun a bytes old (Ok r) new

  -- With exit status 2 it failed.
  abbrev pub IsFailedExit : Asking T U → List ℕ → Option (List ℕ) → Option (List ℕ) → Type 0
  IsFailedExit a bytes old new = (f : Failure) × IsCommandRun a bytes old (Err f) new

  -- An entry has no difference: it has no record, or one that only asks for a new stat.
  abbrev pub HasNoDifference : Result (Option (EntryStatus T U)) Error → Type 0
  HasNoDifference (Ok (Some status)) = differs status ≡ false
  HasNoDifference (Ok _) = ⊤
  HasNoDifference (Err e) = ⊥

  -- No considered entry differs from the worktree.
  abbrev pub NoneDiffers : Query T U → State → Type 0
  NoneDiffers query index = All (λ e. HasNoDifference (verdict query (considered_entries query index) e)) (considered_entries query index)

  -- Nothing may be found to be staged or untracked.
  abbrev pub IsNothingBeside : Asking T U → State → Type 0
  IsNothingBeside a index = (beside : Beside) × a.may_find (index_of index) beside × (is_anything beside ≡ false)

  -- An index was read next to whose status nothing was found, and of which no considered entry differs from the worktree.
  abbrev pub IsClean : Asking T U → List ℕ → Type 0
  IsClean a bytes = (read : ReadFile a bytes) × IsNothingBeside a read.index × NoneDiffers (a.query read.converting.filter (settings a.settings.options read.index)) read.index

  -- A status of an index that was read, by what was seen of each considered entry.
  pub record SeenBy (a : Asking T U) (index : State) (filter : CleanFilter) : Type 0 where
    pub views : Views U
    pub allowed : AllAllowed (IsViewAllowed a.may_return a.settings.options.fscache) (considered_entries (a.query filter (settings a.settings.options index)) index) views

  -- The query of what was seen.
  abbrev pub seen_query : (a : Asking T U) (index : State) (filter : CleanFilter) → SeenBy a index filter → Query T U
  seen_query a index filter seen = as_seen (a.query filter (settings a.settings.options index)) seen.views

  -- An index was read next to whose status nothing was found, and of which no considered entry differs, by what was seen of each.
  abbrev pub IsSeenClean : Asking T U → List ℕ → Type 0
  IsSeenClean a bytes = (read : ReadFile a bytes) × IsNothingBeside a read.index × ∥ ((seen : SeenBy a read.index read.converting.filter) × NoneDiffers (seen_query a read.index read.converting.filter seen) read.index) ∥₁

  -- Over a modelled worktree, a command that ended with exit status 0 means this.
  abbrev pub CleanLaw : Asking T U → List ℕ → Type 0
  CleanLaw a bytes =
      ((filter : CleanFilter) (settings : StatusSettings) → IsTrue (a.query filter settings).modelled) → (old new : Option (List ℕ)) → IsExit a bytes false old new → IsClean a bytes
