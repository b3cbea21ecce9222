-- Staged changes: the paths at which an index differs from HEAD's commit, with git's letters, in the order of paths.
use Rattle.std.specs.Prelude.{◌≡◌, ℕ, Bool, List, [], ◌∷◌, ◌++◌, length, Option, Some, None, map}
use Rattle.std.specs.Cmp.Lexicographic.{slice_cmp}
use Rattle.std.specs.List.{filter, list_any, AllByRecursion}
use Rattle.std.specs.List.Sorted.{IsPermutation, IsSortedByKey}
use Rattle.std.specs.Ordering.{nat_cmp}
use Rattle.status_index.specs.declared.id.ObjectId.{ObjectId}
use Rattle.status_index.specs.declared.entry.Flags.{Flags}
use Rattle.status_index.specs.BlobId.{id_kind}
use Rattle.status_index.specs.Entries.{IndexEntry}
use Rattle.status_index.specs.Mode.{is_submodule}
use Rattle.status_index.specs.Stretch.{is_at}
use Rattle.git_staged.specs.Folders.{IsBelow, copies, inside}
use Rattle.git_staged.specs.Letters.{changes, deletions}
use Rattle.git_staged.specs.TreeFiles.{HasFiles}
use Rattle.git_staged.specs.Trees.{index_tree_id}
use Rattle.git_staged.specs.declared.letters.Letter.{Letter}
use Rattle.git_staged.specs.declared.staged.Staged.{Staged}

-- Which staged changes may be found for the entries of an index.
abbrev pub MayStage : Type 1
MayStage = List IndexEntry → List (List ℕ × Letter) → Type 0

-- An index that isn't compared with a commit has no staged changes.
abbrev pub may_stage_beside : {H : Type 0} → (H → MayStage) → Option H → MayStage
may_stage_beside may (Some head) index found = may head index found
may_stage_beside may None index found = found ≡ []

abbrev pub staged_view : Staged → List ℕ × Letter
staged_view s = (s.path.items, s.letter)

-- A path is a submodule's: by the entries that the index has there, or by the commit's file if the index has none.
abbrev pub is_submodule_by : List IndexEntry → List IndexEntry → Bool
is_submodule_by files [] = list_any (λ e. is_submodule e.mode) files
is_submodule_by files (e ∷ es) = list_any (λ e. is_submodule e.mode) (e ∷ es)

-- A path is selected. A pathspec may include it only as a submodule's.
abbrev pub is_selected : (List ℕ → Bool → Bool) → List IndexEntry → List IndexEntry → List ℕ × Letter → Bool
is_selected included head index change = included change.0 (is_submodule_by (filter (is_at change.0) head) (filter (is_at change.0) index))

-- Exactly the selected changes and deletions, in the order of their paths.
pub record AreStaged (included : List ℕ → Bool → Bool) (head index : List IndexEntry) (found : List (List ℕ × Letter)) : Type 0 where
  pub all : IsPermutation (filter (is_selected included head index) (changes head index ++ deletions index head)) found
  pub order : IsSortedByKey (λ change. change.0) (slice_cmp nat_cmp) found

-- `git write-tree` makes the tree of this id of some entries of an index in a row, by their paths in the folder of this path.
-- These are its files.
pub record IsWritten (index : List IndexEntry) (id : ObjectId) (path : List ℕ) (es : List IndexEntry) : Type 0 where
  pub before : List IndexEntry
  pub run : List IndexEntry
  pub after : List IndexEntry
  pub split : index ≡ before ++ (run ++ after)
  pub below : AllByRecursion (IsBelow path) run
  pub flags : Flags
  pub plain : flags.0 ≡ 0
  pub entries : es ≡ copies flags run
  pub makes : index_tree_id (id_kind id) (map (inside (length path)) run) ≡ id

-- The files of HEAD's tree. That of a folder is read, or made of entries of an index. A branch without a commit has none.
abbrev pub AreHeadFiles : List IndexEntry → Option ObjectId → List IndexEntry → Type 0
AreHeadFiles index None files = files ≡ []
AreHeadFiles index (Some tree) files = (depth : ℕ) × HasFiles (IsWritten index) depth tree [] files

-- The staged changes of an index that is compared with HEAD's tree: how it differs from the tree's files.
abbrev pub IsStagedBeside : Option ObjectId → (List ℕ → Bool → Bool) → List IndexEntry → List (List ℕ × Letter) → Type 0
IsStagedBeside tree included index found = (files : List IndexEntry) × AreHeadFiles index tree files × AreStaged included files index found
