-- The status table: the row of an entry, and the result of each row. An unskipped entry of stage 0 has the status of its row in
-- `StatusTable`.
use Rattle.std.specs.Prelude.{◌≡◌, ◌⊎◌, ℕ, Bool, true, false, ◌&&◌, List, Option, Some, None, is_some, Result, Ok, Err, IsTrue, IsFalse}
use Rattle.status_index.specs.declared.fault.Fault.{Fault}
use Rattle.status_index.specs.declared.fault.Fault.TheVariants as faults
use Rattle.status_index.specs.declared.stat.Metadata.{Metadata}
use Rattle.status_index.specs.declared.stat.NodeKind.TheVariants as kinds
use Rattle.status_index.specs.declared.mode.Mode.{Mode}
use Rattle.status_index.specs.declared.mode.Change.TheVariants.{TypeChange, ExecutableBit}
use Rattle.status_index.specs.declared.stat.Stat.{Stat}
use Rattle.status_index.specs.declared.entry.TheConstants.Flags.{INTENT_TO_ADD}
use Rattle.status_index.specs.Entries.{IndexEntry}
use Rattle.status_index.specs.Absence.{is_absence}
use Rattle.status_index.specs.Mode.{is_submodule, mode_change}
use Rattle.status_index.specs.NodeStat.{stat_of}
use Rattle.status_index.specs.Stat.{is_racy}
use Rattle.status_base.specs.LinkCheck.{LinkCheck, accepted, empty_path, not_normal, through_link, faulty, link_check}
use Rattle.status_compare.specs.declared.error.Error.{Error}
use Rattle.status_compare.specs.declared.error.Error.TheVariants as errors
use Rattle.status_compare.specs.Errors.{error_of}
use Rattle.status_call.specs.declared.index_as_worktree.types.Change.TheVariants as changes
use Rattle.status_call.specs.declared.index_as_worktree.types.EntryStatus.TheVariants as statuses
use Rattle.status_call.specs.Considered.{has_flag}
use Rattle.status_call.specs.Query.{Query}
use Rattle.status_call.specs.Status.{cached_or, changed, is_trusted, readings, status_of}

-- The rows of the table.
pub data Row : Type 0 where
  -- Nothing is there, or a directory in place of a file.
  gone : Row
  -- The path isn't normal, or has a fault other than one of absence.
  refused : Row
  -- A directory at a submodule's entry.
  in_submodule : Row
  -- A node at an entry that is to be added; a node of which a time isn't known; a node of another type.
  added : Row
  unstamped : Row
  retyped : Row
  -- The stat settles that the entry is unchanged.
  unchanged : Row
  -- It doesn't settle it: the comparer fails; executability or content differs; neither does.
  failed : Row
  modified : Row
  to_update : Row

module _ {T U : Type 0} (q : Query T U) (e : IndexEntry) where
  -- The result of a new link check of the entry's path.
  abbrev pub check_of : LinkCheck
  check_of = link_check (q.lstat e) e.path

  -- The node that the listings know at the path, otherwise the result of `lstat`.
  abbrev pub node_of : Result Metadata Fault
  node_of = cached_or (q.cached e) (q.lstat e e.path)

  -- The path leads through a link; a fault of absence is on the way or at the path; or a directory is at the path of an entry
  -- that is no submodule's.
  pub data IsGone : Type 0 where
    by_link : (p : List ℕ) → check_of ≡ through_link p → IsGone
    on_the_way : (f : Fault) → check_of ≡ faulty f → IsTrue (is_absence f) → IsGone
    at_the_path : (f : Fault) → check_of ≡ accepted → node_of ≡ Err f → IsTrue (is_absence f)
        → IsGone
    by_directory : (n : Metadata) → check_of ≡ accepted → node_of ≡ Ok n → n.kind ≡ kinds.Directory
        → IsFalse (is_submodule e.mode) → IsGone

  -- A path that isn't normal, or another fault on the way or at the path.
  pub data IsUnreachable (f : Fault) : Type 0 where
    unnamed : check_of ≡ empty_path → f ≡ faults.NotNormal → IsUnreachable f
    oddly_named : (component : List ℕ) → check_of ≡ not_normal component → f ≡ faults.NotNormal
        → IsUnreachable f
    barred : check_of ≡ faulty f → IsFalse (is_absence f) → IsUnreachable f
    unreadable : check_of ≡ accepted → node_of ≡ Err f → IsFalse (is_absence f) → IsUnreachable f

  -- A directory at a submodule's entry.
  pub record IsInSubmodule : Type 0 where
    pub node : Metadata
    pub clear : check_of ≡ accepted
    pub answered : node_of ≡ Ok node
    pub directory : node.kind ≡ kinds.Directory
    pub submodule : IsTrue (is_submodule e.mode)

  -- A file, a link or another node that is no directory.
  pub record IsPresent (n : Metadata) : Type 0 where
    pub clear : check_of ≡ accepted
    pub answered : node_of ≡ Ok n
    pub no_directory : (n.kind ≡ kinds.File) ⊎ ((n.kind ≡ kinds.Link) ⊎ (n.kind ≡ kinds.Other))

  -- A node at an entry that is to be added.
  pub record IsAdded : Type 0 where
    pub node : Metadata
    pub present : IsPresent node
    pub intended : IsTrue (has_flag e INTENT_TO_ADD)

  -- A node of which a time isn't known.
  pub record IsUnstamped : Type 0 where
    pub node : Metadata
    pub present : IsPresent node
    pub not_intended : IsFalse (has_flag e INTENT_TO_ADD)
    pub unknown : stat_of node ≡ None

  -- A node whose stat is known.
  pub record IsStamped (n : Metadata) (s : Stat) : Type 0 where
    pub present : IsPresent n
    pub not_intended : IsFalse (has_flag e INTENT_TO_ADD)
    pub known : stat_of n ≡ Some s

  -- A node of another type.
  pub record IsRetyped (mode : Mode) : Type 0 where
    pub node : Metadata
    pub stat : Stat
    pub stamped : IsStamped node stat
    pub other_type : mode_change q.symlink q.executable_bit e.mode node ≡ Some (TypeChange mode)

  -- A node of the same type, by whether its executability changed.
  abbrev pub SameType : Metadata → Bool → Type 0
  SameType n true = mode_change q.symlink q.executable_bit e.mode n ≡ Some ExecutableBit
  SameType n false = mode_change q.symlink q.executable_bit e.mode n ≡ None

  abbrev pub trusted : Stat → Bool
  trusted s = is_trusted q e s

  abbrev pub racy : Stat → Bool
  racy s = is_racy q.stat_options q.timestamp s

  -- The stat settles that the entry is unchanged.
  pub record IsUnchanged : Type 0 where
    pub node : Metadata
    pub stat : Stat
    pub stamped : IsStamped node stat
    pub same : SameType node false
    pub trusted_stat : IsTrue (trusted stat)
    pub not_racy : IsFalse (racy stat)

  -- It doesn't settle it: the executability changed, the entry isn't trusted, or the stat is racy.
  pub record IsCompared (n : Metadata) (s : Stat) (executable_changed : Bool) : Type 0 where
    pub stamped : IsStamped n s
    pub same_type : SameType n executable_changed
    pub unsettled : IsTrue executable_changed ⊎ (IsFalse (trusted s) ⊎ IsTrue (racy s))

  -- The comparer's result.
  abbrev pub comparison : Metadata → Result (Option T) Error
  comparison n = q.compared e n.len (readings q e n)

  -- A change of executability or of content.
  abbrev pub HasChange : Bool → Option T → Type 0
  HasChange executable_changed content_change =
      IsTrue executable_changed ⊎ IsTrue (is_some content_change)

  -- The status of a submodule's entry whose path has a directory, by the submodule's report.
  pub record SubmoduleRow : Type 0 where
    pub same : q.submodule e ≡ Ok None → status_of q e ≡ Ok None
    pub other : (u : U) → q.submodule e ≡ Ok (Some u)
        → status_of q e ≡ changed (changes.SubmoduleModification u)
    pub fault : (text : List ℕ) → q.submodule e ≡ Err text
        → status_of q e ≡ Err (errors.SubmoduleStatus e.path text)

  -- The status of each row.
  pub record StatusTable : Type 0 where
    pub gone_row : IsGone → status_of q e ≡ changed changes.Removed
    pub refused_row : (f : Fault) → IsUnreachable f → status_of q e ≡ Err (error_of f)
    pub submodule_row : IsInSubmodule → SubmoduleRow
    pub added_row : IsAdded → status_of q e ≡ Ok (Some statuses.IntentToAdd)
    pub unstamped_row : IsUnstamped → status_of q e ≡ Err errors.Time
    pub retyped_row : (mode : Mode) → IsRetyped mode
        → status_of q e ≡ changed (changes.TypeChange mode)
    pub unchanged_row : IsUnchanged → status_of q e ≡ Ok None
    pub failed_row : (n : Metadata) (s : Stat) (x : Bool) (err : Error) → IsCompared n s x
        → comparison n ≡ Err err → status_of q e ≡ Err err
    pub modified_row : (n : Metadata) (s : Stat) (x : Bool) (c : Option T) → IsCompared n s x
        → comparison n ≡ Ok c → HasChange x c
        → status_of q e ≡ changed (changes.Modification x c (is_some c && trusted s && racy s))
    pub update_row : (n : Metadata) (s : Stat) → IsCompared n s false → comparison n ≡ Ok None
        → status_of q e ≡ Ok (Some (statuses.NeedsUpdate s))

  -- The entry is in a row.
  abbrev pub IsTableRow : Row → Type 0
  IsTableRow gone = IsGone
  IsTableRow refused = (f : Fault) × IsUnreachable f
  IsTableRow in_submodule = IsInSubmodule
  IsTableRow added = IsAdded
  IsTableRow unstamped = IsUnstamped
  IsTableRow retyped = (mode : Mode) × IsRetyped mode
  IsTableRow unchanged = IsUnchanged
  IsTableRow failed = (n : Metadata) × ((s : Stat) × ((x : Bool) × ((err : Error)
      × (IsCompared n s x × (comparison n ≡ Err err)))))
  IsTableRow modified = (n : Metadata) × ((s : Stat) × ((x : Bool) × ((c : Option T)
      × (IsCompared n s x × (comparison n ≡ Ok c) × HasChange x c))))
  IsTableRow to_update = (n : Metadata)
      × ((s : Stat) × (IsCompared n s false × (comparison n ≡ Ok None)))
