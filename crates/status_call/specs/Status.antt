-- The status of one unskipped entry of stage 0: its case, and the result of each case. An unskipped entry of stage 0 has the
-- status of its row in `StatusTable`.
use Rattle.std.specs.Prelude.{ℕ, ◌==◌, Bool, true, false, not, ◌&&◌, List, Option, Some, None, Result, Ok, Err, if◌then◌else◌}
use Rattle.status_index.specs.declared.fault.Fault.{Fault}
use Rattle.status_index.specs.declared.fault.Fault.TheVariants as faults
use Rattle.status_index.specs.declared.stat.Metadata.{Metadata}
use Rattle.status_index.specs.declared.stat.NodeKind.{NodeKind}
use Rattle.status_index.specs.declared.stat.NodeKind.TheVariants as kinds
use Rattle.status_index.specs.declared.mode.Mode.{Mode}
use Rattle.status_index.specs.declared.mode.Mode.TheVariants as modes
use Rattle.status_index.specs.declared.mode.Change.{Change as ModeChange}
use Rattle.status_index.specs.declared.mode.Change.TheVariants.{TypeChange, ExecutableBit}
use Rattle.status_index.specs.declared.stat.Stat.{Stat}
use Rattle.status_index.specs.declared.entry.TheConstants.Flags.{INTENT_TO_ADD}
use Rattle.status_index.specs.Absence.{is_absence}
use Rattle.status_index.specs.BlobId.{is_empty_blob}
use Rattle.status_index.specs.Entries.{IndexEntry}
use Rattle.status_index.specs.Mode.{is_submodule, mode_change}
use Rattle.status_index.specs.NodeStat.{stat_of}
use Rattle.status_index.specs.Stat.{stat_agrees, is_racy}
use Rattle.status_base.specs.LinkCheck.{LinkCheck, accepted, empty_path, not_normal, through_link, faulty, link_check}
use Rattle.status_compare.specs.declared.error.Error.{Error}
use Rattle.status_compare.specs.declared.error.Error.TheVariants as errors
use Rattle.status_compare.specs.Errors.{error_of}
use Rattle.status_compare.specs.Reading.{Reading, Readings, node_reading, blob_reading}
use Rattle.status_call.specs.declared.index_as_worktree.types.Change.{Change}
use Rattle.status_call.specs.declared.index_as_worktree.types.Change.TheVariants as changes
use Rattle.status_call.specs.declared.index_as_worktree.types.EntryStatus.{EntryStatus}
use Rattle.status_call.specs.declared.index_as_worktree.types.EntryStatus.TheVariants as statuses
use Rattle.status_call.specs.Considered.{has_flag}
use Rattle.status_call.specs.Query.{Query}

-- The node at an entry's path: nothing, a fault, a directory, or a file, link or other node. Nothing is there if the path or a
-- directory above it is missing, or a link is on the way.
pub data Found : Type 0 where
  nothing : Found
  refused : Fault → Found
  directory : Found
  present : Metadata → Found

-- A fault of absence, or another fault.
abbrev pub found_fault : Fault → Found
found_fault f = if is_absence f then nothing else refused f

abbrev pub found_kind : Metadata → NodeKind → Found
found_kind n kinds.Directory = directory
found_kind n kinds.File = present n
found_kind n kinds.Link = present n
found_kind n kinds.Other = present n

abbrev pub found_node : Result Metadata Fault → Found
found_node (Ok n) = found_kind n n.kind
found_node (Err f) = found_fault f

-- The node by the link check of the path, and by the result of `lstat`.
abbrev pub found_by : LinkCheck → Result Metadata Fault → Found
found_by accepted node = found_node node
found_by (through_link _) node = nothing
found_by (faulty f) node = found_fault f
found_by (not_normal _) node = refused faults.NotNormal
found_by empty_path node = refused faults.NotNormal

-- The node that the listings know, otherwise the result of `lstat`.
abbrev pub cached_or : Option Metadata → Result Metadata Fault → Result Metadata Fault
cached_or (Some n) answered = Ok n
cached_or None answered = answered

abbrev pub same_bool : Bool → Bool → Bool
same_bool true b = b
same_bool false b = not b

-- The cases of the status table.
pub data Case (T U : Type 0) : Type 0 where
  -- Nothing is there.
  gone : Case T U
  fails : Fault → Case T U
  -- A directory at a submodule's entry, with the submodule's result.
  in_submodule : Result (Option U) (List ℕ) → Case T U
  added : Case T U
  unstamped : Case T U
  retyped : Mode → Case T U
  -- Trusted and not racy, without an executable change.
  unchanged : Case T U
  -- Whether the executable bit changed, the entry is trusted, its stat is racy; the node's stat; the comparer's result.
  compared : Bool → Bool → Bool → Stat → Result (Option T) Error → Case T U

module _ {T U : Type 0} where
  abbrev pub changed : Change T U → Result (Option (EntryStatus T U)) Error
  changed c = Ok (Some (statuses.Change c))

  -- The result of each case, at a path.
  abbrev pub answer : List ℕ → Case T U → Result (Option (EntryStatus T U)) Error
  answer path gone = changed changes.Removed
  answer path (fails f) = Err (error_of f)
  answer path (in_submodule (Ok None)) = Ok None
  answer path (in_submodule (Ok (Some u))) = changed (changes.SubmoduleModification u)
  answer path (in_submodule (Err text)) = Err (errors.SubmoduleStatus path text)
  answer path added = Ok (Some statuses.IntentToAdd)
  answer path unstamped = Err errors.Time
  answer path (retyped mode) = changed (changes.TypeChange mode)
  answer path unchanged = Ok None
  answer path (compared x trusted racy s (Err e)) = Err e
  answer path (compared x trusted racy s (Ok (Some c))) =
      changed (changes.Modification x (Some c) (trusted && racy))
  answer path (compared true trusted racy s (Ok None)) =
      changed (changes.Modification true None false)
  answer path (compared false trusted racy s (Ok None)) = Ok (Some (statuses.NeedsUpdate s))

-- Whether links count at a node: it is a link, or the file system has links.
abbrev pub links_count : Bool → NodeKind → Bool
links_count symlink kinds.Link = true
links_count symlink kinds.File = symlink
links_count symlink kinds.Directory = symlink
links_count symlink kinds.Other = symlink

-- Whether an entry is read as a link's target.
abbrev pub reads_link : Bool → Mode → NodeKind → Bool
reads_link symlink modes.Symlink kind = links_count symlink kind
reads_link symlink modes.Dir kind = false
reads_link symlink modes.File kind = false
reads_link symlink modes.FileExecutable kind = false
reads_link symlink modes.Commit kind = false

-- The case of an entry whose path has a directory, by the submodule's result.
abbrev pub directory_case : {T U : Type 0} → IndexEntry → Result (Option U) (List ℕ) → Case T U
directory_case e said = if is_submodule e.mode then in_submodule said else gone

module _ {T U : Type 0} (q : Query T U) where
  -- The node at an entry's path.
  abbrev pub found : IndexEntry → Found
  found e = found_by (link_check (q.lstat e) e.path) (cached_or (q.cached e) (q.lstat e e.path))

  -- The stat agrees, and the size is 0 exactly if the id is the empty blob's.
  abbrev pub is_trusted : IndexEntry → Stat → Bool
  is_trusted e s = stat_agrees q.stat_options s e.stat
      && same_bool (is_empty_blob e.id) (e.stat.size == 0)

  -- The reading of an entry's node.
  abbrev pub reading : IndexEntry → Metadata → Reading
  reading e n =
      node_reading (reads_link q.symlink e.mode n.kind) (λ content. q.conversion content e.path)
      n.len (q.opened e) (q.linked e)

  abbrev pub readings : IndexEntry → Metadata → Readings
  readings e n = record { file = reading e n; blob = blob_reading (q.blob e) }

  -- The case by whether the executable bit changed, the entry is trusted, and its stat is racy.
  abbrev pub case_of_content : IndexEntry → Metadata → Stat → Bool → Bool → Bool → Case T U
  case_of_content e n s false true false = unchanged
  case_of_content e n s x trusted racy =
      compared x trusted racy s (q.compared e n.len (readings e n))

  abbrev pub case_of_change : IndexEntry → Metadata → Stat → Option ModeChange → Case T U
  case_of_change e n s (Some (TypeChange mode)) = retyped mode
  case_of_change e n s (Some ExecutableBit) =
      case_of_content e n s true (is_trusted e s) (is_racy q.stat_options q.timestamp s)
  case_of_change e n s None =
      case_of_content e n s false (is_trusted e s) (is_racy q.stat_options q.timestamp s)

  abbrev pub case_of_stat : IndexEntry → Metadata → Option Stat → Case T U
  case_of_stat e n None = unstamped
  case_of_stat e n (Some s) = case_of_change e n s (mode_change q.symlink q.executable_bit e.mode n)

  abbrev pub case_of_found : IndexEntry → Found → Case T U
  case_of_found e nothing = gone
  case_of_found e (refused f) = fails f
  case_of_found e directory = directory_case e (q.submodule e)
  case_of_found e (present n) =
      if has_flag e INTENT_TO_ADD then added else case_of_stat e n (stat_of n)

  -- The case of an entry.
  abbrev pub case_of : IndexEntry → Case T U
  case_of e = case_of_found e (found e)

  -- The status of an entry.
  abbrev pub status_of : IndexEntry → Result (Option (EntryStatus T U)) Error
  status_of e = answer e.path (case_of e)
