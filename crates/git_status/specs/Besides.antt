-- The findings next to a status: staged changes, and the nodes of the worktree that the index doesn't have.
use Rattle.std.specs.Prelude.{◌==◌, ◌||◌, not, ℕ, Bool, List, ◌++◌, codes, length, map}
use Rattle.git_staged.specs.Staged.{MayStage, staged_view}
use Rattle.git_staged.specs.declared.letters.Letter.{Letter}
use Rattle.git_untracked.specs.Lines.{Lines, lines_view}
use Rattle.git_untracked.specs.Untracked.{MayFind as MayFindOthers}
use Rattle.git_status.specs.Lines.{Row, row_lines, with_staged}
use Rattle.git_status.specs.declared.beside.Beside.{Beside as BesideType}
use Rattle.git_status.specs.declared.lines.LineStyle.{LineStyle}
use Rattle.status_index.specs.Entries.{IndexEntry}

pub record Beside : Type 0 where
  -- The staged changes, in the order of paths.
  pub staged : List (List ℕ × Letter)
  -- The nodes that the index doesn't have.
  pub others : Lines

-- What may be found for the entries of an index.
abbrev pub MayFind : Type 1
MayFind = List IndexEntry → Beside → Type 0

-- Each part may be found for itself.
abbrev pub may_find_both : MayStage → MayFindOthers → MayFind
may_find_both may_stage may_find es beside = may_stage es beside.staged × may_find es beside.others

-- Something is staged, or a node is untracked. An ignored one doesn't count.
abbrev pub is_anything : Beside → Bool
is_anything b = not (length b.staged == 0) || not (length b.others.untracked == 0)

abbrev pub other_row : List ℕ → List ℕ → Row
other_row letters path = (path, letters)

-- The rows of untracked nodes, and after them those of ignored ones.
abbrev pub other_rows : Lines → List Row
other_rows l = map (other_row (codes "??")) l.untracked ++ map (other_row (codes "!!")) l.ignored

-- The lines of what is staged and of rows, in the order of paths, and after them those of the nodes that the index doesn't have.
abbrev pub beside_text : LineStyle → Beside → List Row → List ℕ
beside_text style b rows = row_lines style (with_staged rows b.staged ++ other_rows b.others)

abbrev pub beside_view : BesideType → Beside
beside_view b = record { staged = map staged_view b.staged.items; others = lines_view b.others }
