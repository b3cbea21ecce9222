-- Each line is spelled out; a path is a JSON text with U+FFFD for bytes that aren't UTF-8.
use Rattle.std.specs.Prelude.{ℕ, Bool, List, [], ◌∷◌, ◌++◌, codes, decimal, is_some, if◌then◌else◌}
use Rattle.std.specs.Str.Lossy.{utf8_lossy}
use Rattle.json.specs.Print.{quoted}
use Rattle.status_call.specs.declared.index_as_worktree.types.Change.{Change}
use Rattle.status_call.specs.declared.index_as_worktree.types.Change.TheVariants as changes
use Rattle.status_call.specs.declared.index_as_worktree.types.Conflict.{Conflict}
use Rattle.status_call.specs.declared.index_as_worktree.types.Conflict.TheVariants as conflicts
use Rattle.status_call.specs.declared.index_as_worktree.types.EntryStatus.{EntryStatus}
use Rattle.status_call.specs.declared.index_as_worktree.types.EntryStatus.TheVariants as statuses
use Rattle.status_call.specs.declared.index_as_worktree.types.Outcome.{Outcome}
use Rattle.status_call.specs.Counts.{skipped_of}
use Rattle.status_call.specs.Visits.{Visit}
use Rattle.status_format.specs.Words.{mode_digits}
use Rattle.status_joined.specs.Items.{Reported, modification, contents, rewrite, path_of}

-- texts one after the other
abbrev pub spell : List (List ℕ) → List ℕ
spell [] = []
spell (text ∷ []) = text
spell (text ∷ next ∷ rest) = text ++ spell (next ∷ rest)

-- texts as a line, with its line feed
abbrev pub line : List (List ℕ) → List ℕ
line [] = 10 ∷ []
line (text ∷ rest) = text ++ line rest

-- a path: a JSON text, in which U+FFFD replaces bytes that aren't UTF-8
abbrev pub path_text : List ℕ → List ℕ
path_text path = quoted (utf8_lossy path)

-- a conflict: its name, and the stages that it has
abbrev pub conflict_text : Conflict → List ℕ
conflict_text conflicts.BothDeleted = codes "both-deleted 1"
conflict_text conflicts.AddedByUs = codes "added-by-us 2"
conflict_text conflicts.DeletedByThem = codes "deleted-by-them 12"
conflict_text conflicts.AddedByThem = codes "added-by-them 3"
conflict_text conflicts.DeletedByUs = codes "deleted-by-us 13"
conflict_text conflicts.BothAdded = codes "both-added 23"
conflict_text conflicts.BothModified = codes "both-modified 123"

-- a letter, or a dash if it doesn't hold
abbrev pub letter_text : Bool → List ℕ → List ℕ
letter_text holds letter = if holds then letter else codes "-"

module _ {T U : Type 0} where
  -- a change: a removal, another type, the three letters of a modification, or a submodule
  abbrev pub change_text : Change T U → List ℕ
  change_text changes.Removed = codes "removed"
  change_text (changes.TypeChange mode) = codes "type " ++ mode_digits mode
  change_text (changes.Modification executable content size) =
      spell (codes "modified " ∷ letter_text executable (codes "x") ∷ letter_text (is_some content) (codes "c") ∷ letter_text size (codes "s") ∷ [])
  change_text (changes.SubmoduleModification _) = codes "submodule"

  -- the words for a status
  abbrev pub status_text : EntryStatus T U → List ℕ
  status_text (statuses.Conflict conflict _) = codes "conflict " ++ conflict_text conflict
  status_text (statuses.Change change) = change_text change
  status_text (statuses.NeedsUpdate _) = codes "update"
  status_text statuses.IntentToAdd = codes "intent"

  -- the line of a record: the entry's position in the index, its status and its path
  abbrev pub record_line : ℕ → List ℕ → EntryStatus T U → List ℕ
  record_line place path status = line (decimal place ∷ codes " " ∷ status_text status ∷ codes " " ∷ path_text path ∷ [])

  abbrev pub visit_line : Visit T U → List ℕ
  visit_line v = record_line v.entry_index v.path v.status

  -- the line of an entry of a status with untracked files, renames or sorted lines
  abbrev pub entry_line : Reported T U → List ℕ
  entry_line (modification v) = visit_line v
  entry_line (contents node) = line (codes "- added " ∷ path_text node.path ∷ [])
  entry_line (rewrite source node _ _) = line (codes "- renamed " ∷ path_text (path_of source) ∷ codes " " ∷ path_text node.path ∷ [])

-- the line of a run, which is counted from 1
abbrev pub run_line : ℕ → List ℕ
run_line run = line (codes "run " ∷ decimal run ∷ [])

-- of the totals: the entries that were considered, processed and skipped
abbrev pub considered_text : ℕ → ℕ → ℕ → List ℕ
considered_text considered processed skipped = spell
    (codes "total: to process " ∷ decimal considered ∷ codes ", processed " ∷ decimal processed
    ∷ codes ", skipped " ∷ decimal skipped ∷ [])

-- the calls of lstat, the entries that need an update, those that are racy, and the files and bytes that were read
abbrev pub work_text : Outcome → List ℕ
work_text o = spell
    (codes ", lstat " ∷ decimal o.symlink_metadata_calls ∷ codes ", to update " ∷ decimal o.entries_to_update
    ∷ codes ", racy " ∷ decimal o.racy_clean ∷ codes ", read " ∷ decimal o.worktree_files_read
    ∷ codes ", bytes " ∷ decimal o.worktree_bytes ∷ [])

-- the line of totals
abbrev pub total_line : Outcome → List ℕ
total_line o = line (considered_text o.entries_to_process o.entries_processed (skipped_of o) ∷ work_text o ∷ [])
