-- The lines of both columns, from the bytes of an index file to those of the output.
use Rattle.std.specs.Prelude.{◌≡◌, ℕ, Bool, List, [], Option, Some, None, IsTrue, slice_get}
use Rattle.std.specs.List.{flat_map}
use Rattle.std.specs.Io.KnownBytes.{Appends}
use Rattle.git_attributes.specs.declared.clean.CleanFilter.{CleanFilter}
use Rattle.status_call.specs.Inputs.{settings}
use Rattle.status_call.specs.Query.{Query}
use Rattle.status_call.specs.Records.{records_of}
use Rattle.status_call.specs.StatusTheorem.{considered_entries, start_of}
use Rattle.status_call.specs.declared.index_as_worktree.inputs.Settings.{Settings as StatusSettings}
use Rattle.status_call.specs.declared.index_as_worktree.types.EntryStatus.{EntryStatus}
use Rattle.status_call.specs.declared.index_as_worktree.types.Finding.{Finding}
use Rattle.status_index.specs.Entries.{IndexEntry}
use Rattle.status_index.specs.States.{index_of}
use Rattle.status_index.specs.declared.state.State.{State}
use Rattle.git_status.specs.Besides.{Beside, beside_text}
use Rattle.git_status.specs.Lines.{Row, status_row}
use Rattle.git_status.specs.Runs.{Asking, IsExit, ReadFile, SeenBy, seen_query}
use Rattle.git_status.specs.declared.lines.LineStyle.{LineStyle}

module _ {T U : Type 0} where
  -- The row of an entry with this status; none if it doesn't differ.
  abbrev pub entry_row : Option IndexEntry → EntryStatus T U → List Row
  entry_row (Some e) status = status_row e.path status
  entry_row None status = []

  -- The row of the entry at a finding's position.
  abbrev pub finding_row : List IndexEntry → Finding T U → List Row
  finding_row es f = entry_row (slice_get es f.entry_index) f.status

  -- The rows of all considered entries that differ from the worktree, in index order.
  abbrev pub difference_rows : Query T U → State → List Row
  difference_rows q index = flat_map (finding_row (index_of index)) (records_of q (start_of q index) (considered_entries q index))

  -- The output grew by exactly the lines of what is staged and of the entries that differ, in the order of paths, and of what else was found.
  abbrev pub PrintsBoth : LineStyle → Beside → Query T U → State → Option (List ℕ) → Option (List ℕ) → Type 0
  PrintsBoth style beside q index old new = Appends old new (beside_text style beside (difference_rows q index))

  -- The bytes are an index file, and such lines were printed of the findings next to its status.
  abbrev pub PrintsDifferences : Asking T U → LineStyle → List ℕ → Option (List ℕ) → Option (List ℕ) → Type 0
  PrintsDifferences a style bytes old new =
      (read : ReadFile a bytes) × (beside : Beside) × a.may_find (index_of read.index) beside × PrintsBoth style beside (a.query read.converting.filter (settings a.settings.options read.index)) read.index old new

  -- The bytes are an index file, and such lines were printed, by what was seen of each entry.
  abbrev pub PrintsSeen : Asking T U → LineStyle → List ℕ → Option (List ℕ) → Option (List ℕ) → Type 0
  PrintsSeen a style bytes old new =
      (read : ReadFile a bytes) × (beside : Beside) × a.may_find (index_of read.index) beside
      × ∥ ((seen : SeenBy a read.index read.converting.filter) × PrintsBoth style beside (seen_query a read.index read.converting.filter seen) read.index old new) ∥₁

  -- Over a modelled worktree a command that ended with exit status 0 or 1 printed so, unless it is quiet.
  abbrev pub LinesLaw : Asking T U → List ℕ → Type 0
  LinesLaw a bytes =
      ((filter : CleanFilter) (settings : StatusSettings) → IsTrue (a.query filter settings).modelled) → (style : LineStyle) → a.settings.lines ≡ Some style
      → (dirty : Bool) (old new : Option (List ℕ)) → IsExit a bytes dirty old new → PrintsDifferences a style bytes old new
