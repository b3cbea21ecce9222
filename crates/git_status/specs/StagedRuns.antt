-- The command for the first column alone.
use Rattle.std.specs.Prelude.{◌≡◌, ◌==◌, ◌||◌, ℕ, Bool, not, List, [], ⊤, length, map, filter, Option, Some, None, option_map, Result, Ok, Err, if◌then◌else◌}
use Rattle.std.specs.List.{dedup, flat_map, list_any}
use Rattle.std.specs.Str.{bytes_eq}
use Rattle.std.specs.Io.KnownBytes.{Appends}
use Rattle.bstr.specs.BStr.{bstr_bytes}
use Rattle.status_index.specs.Entries.{IndexEntry, stage_of}
use Rattle.status_index.specs.Mode.{is_submodule}
use Rattle.status_call.specs.Conflicts.{conflict_of, is_in_run}
use Rattle.git_staged.specs.Staged.{MayStage}
use Rattle.git_staged.specs.declared.letters.Letter.{Letter}
use Rattle.git_status.specs.Lines.{Row, conflict_letters, row_by, row_lines, with_staged}
use Rattle.git_status.specs.declared.failure.Failure.{Failure}
use Rattle.git_status.specs.declared.lines.LineStyle.{LineStyle}
use Rattle.git_status.specs.declared.staged.Unmerged.{Unmerged}

-- The row of a path in conflict.
abbrev pub unmerged_row : Unmerged → Row
unmerged_row u = (bstr_bytes u.path, conflict_letters u.conflict)

-- An entry with a stage above 0 is a side of the conflict at its path.
abbrev pub is_side : IndexEntry → Bool
is_side e = not (stage_of e == 0)

abbrev pub side_paths : List IndexEntry → List (List ℕ)
side_paths es = map (λ e. e.path) (filter is_side es)

-- The paths in conflict, in order, each once.
abbrev pub unmerged_paths : List IndexEntry → List (List ℕ)
unmerged_paths es = dedup bytes_eq (side_paths es)

-- The sides of the conflict at a path.
abbrev pub sides : List IndexEntry → List ℕ → List IndexEntry
sides es path = filter (is_in_run path) es

module _ (included : List ℕ → Bool → Bool) where
  -- A pathspec selects a path in conflict if it includes one of its sides. It may include the path only as a submodule's.
  abbrev pub is_selected : List ℕ → List IndexEntry → Bool
  is_selected path run = list_any (λ e. included path (is_submodule e.mode)) run

  -- The row of a path in conflict, by its sides: nothing if it isn't selected.
  abbrev pub selected_row : List ℕ → List IndexEntry → List Row
  selected_row path run = if is_selected path run then row_by path (option_map conflict_letters (conflict_of run)) else []

  abbrev pub row_of : List IndexEntry → List ℕ → List Row
  row_of es path = selected_row path (sides es path)

  -- The rows of the selected paths in conflict, in order.
  abbrev pub unmerged_rows : List IndexEntry → List Row
  unmerged_rows es = flat_map (row_of es) (unmerged_paths es)

-- The lines of what is staged and of the rows of conflicts.
abbrev pub staged_text : Option LineStyle → List Row → List (List ℕ × Letter) → List ℕ
staged_text (Some style) rows staged = row_lines style (with_staged rows staged)
staged_text None rows staged = []

-- Staged changes were found and printed with the rows of the selected paths in conflict, and this is whether there are any.
abbrev pub IsStagedRun : MayStage → (List ℕ → Bool → Bool) → List IndexEntry → Option LineStyle → Option (List ℕ) → Result Bool Failure → Option (List ℕ) → Type 0
IsStagedRun may_stage included index lines old (Ok found) new =
    (staged : List (List ℕ × Letter)) × may_stage index staged
    × Appends old new (staged_text lines (unmerged_rows included index) staged)
    × (found ≡ (not (length staged == 0) || not (length (unmerged_rows included index) == 0)))
IsStagedRun may_stage included index lines old (Err f) new = ⊤
