-- Which suffixes of a pattern match a text, by one pass over the pattern for each byte of the text.
use Rattle.std.specs.Prelude.{ℕ, Bool, List, [], ◌∷◌, ◌++◌, if◌then◌else◌}
use Rattle.git_patterns.specs.Tables.{carried}
use Rattle.git_patterns.specs.Wildmatch.{Part, is_match}

-- For each part, what a pass over the text carries before it: whether the text passes the part, but with `**/` for one folder at least.
abbrev pub row_of : List Part → List ℕ → List Bool
row_of [] text = []
row_of (part ∷ parts) text = carried part (is_match parts) text ∷ row_of parts text

-- A path, and a slash after it if it is a folder's.
abbrev pub named : List ℕ → Bool → List ℕ
named path is_folder = path ++ (if is_folder then 47 ∷ [] else [])
