-- The lines of the nodes that an index doesn't have.
use Rattle.std.specs.Prelude.{◌≡◌, ◌↔◌, ℕ, ◌==◌, ◌&&◌, Bool, true, false, List, [], ◌∷◌, ◌++◌, Contains, length, map, Vec}
use Rattle.std.specs.Global.{Global}
use Rattle.std.specs.List.Sorted.{IsStrictlySortedBy}
use Rattle.std.specs.Cmp.Lexicographic.{slice_cmp}
use Rattle.std.specs.Ordering.{nat_cmp}
use Rattle.git_untracked.specs.declared.lines.End.{End}
use Rattle.git_untracked.specs.declared.lines.Lines.{Lines as LinesType}

-- The paths of untracked nodes, and those of ignored ones. The path of a folder ends in a slash.
pub record Lines : Type 0 where
  pub untracked : List (List ℕ)
  pub ignored : List (List ℕ)

abbrev pub no_lines : Lines
no_lines = record { untracked = []; ignored = [] }

-- The lines of both.
abbrev pub and_lines : Lines → Lines → Lines
and_lines one other = record { untracked = one.untracked ++ other.untracked; ignored = one.ignored ++ other.ignored }

-- The line of one node.
abbrev pub line_of : Bool → List ℕ → Lines
line_of false path = record { untracked = path ∷ []; ignored = [] }
line_of true path = record { untracked = []; ignored = path ∷ [] }

-- The line of a folder, which it has unless an entry has its path.
abbrev pub own_line : Bool → List ℕ → Bool → Lines
own_line true folder is_ignored = no_lines
own_line false folder is_ignored = line_of is_ignored folder

abbrev pub collapsed_from : (Bool → Lines) → List (List ℕ) → List (List ℕ) → Lines
collapsed_from line [] [] = no_lines
collapsed_from line [] (path ∷ paths) = line true
collapsed_from line (path ∷ paths) ignored = and_lines (line false) (record { untracked = []; ignored = ignored })

-- The line of a folder that replaces these lines. It is untracked if one of them is, and then those of ignored nodes stay.
abbrev pub collapsed : (Bool → Lines) → Lines → Lines
collapsed line lines = collapsed_from line lines.untracked lines.ignored

abbrev pub is_none_of : Lines → Bool
is_none_of l = length l.untracked == 0 && length l.ignored == 0

-- Each of these paths once, in the order of their bytes.
pub record AreInOrder (found paths : List (List ℕ)) : Type 0 where
  pub order : IsStrictlySortedBy (slice_cmp nat_cmp) paths
  pub same : (path : List ℕ) → Contains found path ↔ Contains paths path

-- Each of these lines once, in order.
pub record IsListOf (found lines : Lines) : Type 0 where
  pub untracked : AreInOrder found.untracked lines.untracked
  pub ignored : AreInOrder found.ignored lines.ignored

-- ---- the code's lines

abbrev pub paths_of : List (Vec ℕ Global) → List (List ℕ)
paths_of paths = map (λ path. path.items) paths

abbrev pub lines_view : LinesType → Lines
lines_view l = record { untracked = paths_of l.untracked.items; ignored = paths_of l.ignored.items }

-- Lines end here.
pub record IsEnd (lines : Lines) (end : End) : Type 0 where
  pub untracked : end.untracked ≡ length lines.untracked
  pub ignored : end.ignored ≡ length lines.ignored
