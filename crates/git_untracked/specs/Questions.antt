-- The request of a walk for untracked files, and what a worktree may return to it.
use Rattle.std.specs.Prelude.{◌≡◌, ◌⊎◌, ◌==◌, ◌&&◌, ◌||◌, not, ℕ, Bool, true, List, [], ◌++◌, filter, codes, Option, Some, None}
use Rattle.std.specs.List.{list_any}
use Rattle.std.specs.Str.{bytes_eq}
use Rattle.status_index.specs.Entries.{IndexEntry, stage_of}
use Rattle.status_index.specs.Mode.{is_submodule}
use Rattle.status_index.specs.Stretch.{is_at, is_under}
use Rattle.status_index.specs.declared.stat.NodeKind.{NodeKind}
use Rattle.git_ignore.specs.Rules.{Rule, rules_of}

-- The entries of an index, which lines are wanted, and what a worktree may return. A folder's path ends in a slash, except that of the
-- worktree's top, which is empty.
pub record Question : Type 1 where
  pub index : List IndexEntry
  -- Whether each file of an untracked folder has a line, and not the folder.
  pub all : Bool
  -- Whether ignored nodes have lines too.
  pub ignored : Bool
  -- Whether a path is selected. The last argument is whether it is a folder's.
  pub selects : List ℕ → Bool → Bool
  -- Whether a node at a path, or one below it, may be selected.
  pub reaches : List ℕ → Bool
  -- Whether a path below this one is selected by itself.
  pub leads : List ℕ → Bool
  -- The names in a folder, or None if there is no folder.
  pub may_list : List ℕ → Option (List (List ℕ)) → Type 0
  -- The type of the node at a path, or None if nothing is there.
  pub may_be : List ℕ → Option NodeKind → Type 0
  -- The bytes of a folder's ignore file, or None if it has none.
  pub may_ignore : List ℕ → Option (List ℕ) → Type 0
  -- Whether a folder is the top of another repository.
  pub may_nest : List ℕ → Bool → Type 0

-- The rules that count in a folder, whether the folder or one above it is ignored, and whether its first line is enough.
pub record Within : Type 0 where
  pub rules : List Rule
  pub excluded : Bool
  pub one : Bool

-- An entry is below a folder.
abbrev pub has_below : List IndexEntry → List ℕ → Bool
has_below es folder = list_any (is_under folder) es

-- Git keeps its own files under the name `.git`. The other two names are those of the folder itself and of the one above.
abbrev pub is_special : List ℕ → Bool
is_special name = bytes_eq name (codes ".git") || (bytes_eq name (codes ".") || bytes_eq name (codes ".."))

-- By an entry no line is at its path or below it: it is a submodule's, or a tracked file's. A folder may be in place of the file, and then
-- its nodes count if what is below is wanted. They also count if the path has only sides of a conflict, since one of these may have a folder.
abbrev pub settles : Bool → IndexEntry → Bool
settles wanted e = is_submodule e.mode || (not wanted && stage_of e == 0)

-- An entry settles this path.
abbrev pub is_settled : Bool → List IndexEntry → List ℕ → Bool
is_settled wanted es path = list_any (settles wanted) (filter (is_at path) es)

-- No line is at a path or below it: the path is settled, or nothing there may be selected. Nodes below are wanted if all untracked files or ignored nodes are, or if a path
-- below is selected by itself.
abbrev pub is_passed_over : Question → List ℕ → Bool
is_passed_over q path =
    is_settled (q.all || (q.ignored || q.leads path)) q.index path || not (q.reaches path)

abbrev pub file_rules : List ℕ → Option (List ℕ) → List Rule
file_rules folder None = []
file_rules folder (Some bytes) = rules_of folder bytes

-- The rules of a folder's ignore file come after those of the folders above. In an ignored folder it needn't be read.
abbrev pub HasRules : Question → List ℕ → Within → List Rule → Type 0
HasRules q folder within rules =
    ((within.excluded ≡ true) × (rules ≡ within.rules))
    ⊎ ((file : Option (List ℕ)) × q.may_ignore folder file × (rules ≡ within.rules ++ file_rules folder file))
