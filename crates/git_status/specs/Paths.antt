-- Which entries a pathspec selects.
use Rattle.std.specs.Prelude.{ℕ, ◌&&◌, not, Bool, List}
use Rattle.std.specs.List.{list_any}
use Rattle.status_index.specs.Entries.{IndexEntry}
use Rattle.status_index.specs.States.{index_of}
use Rattle.status_index.specs.Stretch.{is_at}
use Rattle.git_pathspecs.specs.Lists.{selects}
use Rattle.git_status.specs.declared.paths.Paths.{Paths}

-- An entry that is left out has this path.
abbrev pub is_left_out : List IndexEntry → List ℕ → Bool
is_left_out entries path = list_any (is_at path) entries

-- The elements select the path, and no entry there is left out.
abbrev pub is_included : Paths → List ℕ → Bool → Bool
is_included p path is_dir = selects p.elements.now is_dir path && not (is_left_out (index_of p.left_out.now) path)
