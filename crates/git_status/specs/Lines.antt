-- The lines of `git status --porcelain -uno --no-renames`: the first column is how the index differs from HEAD, and the second how the
-- worktree differs from the index.
use Rattle.std.specs.Prelude.{ℕ, ◌==◌, Bool, List, [], ◌∷◌, ◌++◌, Option, Some, None, codes, is_some, map, if◌then◌else◌}
use Rattle.std.specs.Cmp.Lexicographic.{slice_cmp}
use Rattle.std.specs.List.{flat_map}
use Rattle.std.specs.Ordering.{nat_cmp}
use Rattle.std.specs.declared.cmp.Ordering.{Ordering}
use Rattle.std.specs.declared.cmp.Ordering.TheVariants.{Less, Equal, Greater}
use Rattle.git_staged.specs.declared.letters.Letter.{Letter}
use Rattle.git_staged.specs.declared.letters.Letter.TheVariants.{Added, Modified, TypeChanged, Deleted}
use Rattle.status_call.specs.declared.index_as_worktree.types.Change.{Change}
use Rattle.status_call.specs.declared.index_as_worktree.types.Change.TheVariants as changes
use Rattle.status_call.specs.declared.index_as_worktree.types.Conflict.{Conflict}
use Rattle.status_call.specs.declared.index_as_worktree.types.Conflict.TheVariants as conflicts
use Rattle.status_call.specs.declared.index_as_worktree.types.EntryStatus.{EntryStatus}
use Rattle.status_call.specs.declared.index_as_worktree.types.EntryStatus.TheVariants as statuses
use Rattle.status_call.specs.Visits.{Visit}
use Rattle.git_status.specs.declared.lines.LineStyle.{LineStyle}
use Rattle.git_status.specs.Quoting.{path_text}

-- The letters of a conflict: what we did, and what they did.
abbrev pub conflict_letters : Conflict → List ℕ
conflict_letters conflicts.BothDeleted = codes "DD"
conflict_letters conflicts.AddedByUs = codes "AU"
conflict_letters conflicts.DeletedByThem = codes "UD"
conflict_letters conflicts.AddedByThem = codes "UA"
conflict_letters conflicts.DeletedByUs = codes "DU"
conflict_letters conflicts.BothAdded = codes "AA"
conflict_letters conflicts.BothModified = codes "UU"

-- The path as it is with a zero byte after it (`-z`), or as git prints it with a line feed.
abbrev pub path_ending : LineStyle → List ℕ → List ℕ
path_ending style path = if style.zero then path ++ 0 ∷ [] else path_text style.quote_all path ++ 10 ∷ []

-- A path and its two letters.
abbrev pub Row : Type 0
Row = List ℕ × List ℕ

-- The row of a path; none without letters.
abbrev pub row_by : List ℕ → Option (List ℕ) → List Row
row_by path None = []
row_by path (Some two) = (path, two) ∷ []

-- A row's line: its letters, a space and its path; and the lines of rows.
abbrev pub row_line : LineStyle → Row → List ℕ
row_line style row = row.1 ++ (32 ∷ path_ending style row.0)

abbrev pub row_lines : LineStyle → List Row → List ℕ
row_lines style rows = flat_map (row_line style) rows

-- The letter of the first column.
abbrev pub staged_letter : Letter → ℕ
staged_letter Added = 65
staged_letter Modified = 77
staged_letter TypeChanged = 84
staged_letter Deleted = 68

-- The letters of a path that is staged, which the worktree leaves as the index has it.
abbrev pub staged_row : List ℕ × Letter → Row
staged_row s = (s.0, staged_letter s.1 ∷ 32 ∷ [])

-- The letters of both columns. Those of a conflict stay, and so does a letter of the second column.
abbrev pub both_columns : ℕ → List ℕ → List ℕ
both_columns x [] = []
both_columns x (first ∷ more) = (if first == 32 then x else first) ∷ more

-- A row of the worktree in the order of paths: staged paths before it come first, and a letter that is staged at its path is in its
-- first column. The rest of what is staged goes to the rows after it.
module _ (row : Row) (after : List (List ℕ × Letter) → List Row) where
  abbrev pub beside_first : List Row → Ordering → List ℕ × Letter → List (List ℕ × Letter) → List Row
  beside_first later Less s more = staged_row s ∷ later
  beside_first later Equal s more = (row.0, both_columns (staged_letter s.1) row.1) ∷ after more
  beside_first later Greater s more = row ∷ after (s ∷ more)

  abbrev pub beside_row : List (List ℕ × Letter) → List Row
  beside_row [] = row ∷ after []
  beside_row (s ∷ more) = beside_first (beside_row more) (slice_cmp nat_cmp s.0 row.0) s more

-- The staged changes and the rows of the worktree, one row a path, in the order of paths.
abbrev pub with_staged : List Row → List (List ℕ × Letter) → List Row
with_staged [] staged = map staged_row staged
with_staged (row ∷ rows) staged = beside_row row (with_staged rows) staged

module _ {T U : Type 0} where
  -- The letters of a change.
  abbrev pub change_letters : Change T U → List ℕ
  change_letters changes.Removed = codes " D"
  change_letters (changes.TypeChange _) = codes " T"
  change_letters (changes.Modification _ _ _) = codes " M"
  change_letters (changes.SubmoduleModification _) = codes " M"

  -- The letters of a status; none if the entry doesn't differ from the worktree.
  abbrev pub letters : EntryStatus T U → Option (List ℕ)
  letters (statuses.Conflict conflict _) = Some (conflict_letters conflict)
  letters (statuses.Change change) = Some (change_letters change)
  letters (statuses.NeedsUpdate _) = None
  letters statuses.IntentToAdd = Some (codes " A")

  -- The entry differs from the worktree.
  abbrev pub differs : EntryStatus T U → Bool
  differs status = is_some (letters status)

  -- The row of a path with this status, and its line: nothing if the entry doesn't differ.
  abbrev pub status_row : List ℕ → EntryStatus T U → List Row
  status_row path status = row_by path (letters status)

  abbrev pub status_line : LineStyle → List ℕ → EntryStatus T U → List ℕ
  status_line style path status = row_lines style (status_row path status)

  -- The row of a record, and those of a list of records.
  abbrev pub visit_row : Visit T U → List Row
  visit_row v = status_row v.path v.status

  abbrev pub visit_rows : List (Visit T U) → List Row
  visit_rows visits = flat_map visit_row visits
