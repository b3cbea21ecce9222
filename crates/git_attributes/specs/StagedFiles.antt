-- The attribute files that are only in an index.
use Rattle.std.specs.Prelude.{◌≡◌, ◌<◌, ◌⊎◌, ◌||◌, ℕ, Bool, true, false, List, ◌∷◌, ◌++◌, length, All}
use Rattle.std.specs.Cmp.Lexicographic.{slice_cmp}
use Rattle.std.specs.List.{list_any, slice_index_or}
use Rattle.std.specs.List.Sorted.{IsPermutation, IsSortedByKey}
use Rattle.std.specs.Ordering.{nat_cmp}
use Rattle.std.specs.Str.{bytes_eq}
use Rattle.status_index.specs.declared.id.ObjectId.{ObjectId}
use Rattle.status_index.specs.BlobId.{id_kind}
use Rattle.status_index.specs.Entries.{IndexEntry, stage_of}
use Rattle.git_objects.specs.Objects.{id_of_object}
use Rattle.git_objects.specs.declared.object.ObjectKind.TheVariants.{Blob}
use Rattle.git_patterns.specs.Text.{before, ends_in_slash}
use Rattle.git_attributes.specs.Files.{File}
use Rattle.git_attributes.specs.WorktreeFiles.{file_path, is_top}

-- The path of a folder: nothing for the worktree's top, and otherwise a slash is its last byte.
abbrev pub is_folder_path : List ℕ → Bool
is_folder_path folder = is_top folder || ends_in_slash folder

-- The bytes of an attribute file by the content of a blob with this id. As in git, the first zero byte ends it, and a byte order
-- mark isn't left out, so a line feed comes first here.
pub record IsBlobText (id : ObjectId) (bytes : List ℕ) : Type 0 where
  pub content : List ℕ
  pub object : id_of_object (id_kind id) Blob content ≡ id
  pub text : bytes ≡ 10 ∷ before 0 content

-- An entry is the attribute file of a folder that has none of these. In a conflict it is the side of the branch that is merged into.
pub record IsStagedFrom (e : IndexEntry) (inner : List File) (file : File) : Type 0 where
  pub folder : is_folder_path file.folder ≡ true
  pub path : e.path ≡ file_path file.folder
  pub stage : (stage_of e ≡ 0) ⊎ (stage_of e ≡ 2)
  pub alone : list_any (λ other. bytes_eq other.folder file.folder) inner ≡ false
  pub macros : file.has_macros ≡ is_top file.folder
  pub blob : IsBlobText e.id file.bytes

-- The entry of some number in an index is the attribute file of a folder that has none of these.
pub record IsStagedFile (index : List IndexEntry) (inner : List File) (file : File) : Type 0 where
  pub number : ℕ
  pub within : number < length index
  pub staged : (d : IndexEntry) → IsStagedFrom (slice_index_or index number d) inner file

-- Files that were found within the worktree count, and files that are only in the index, in the order of their folders' paths; and
-- others count as well.
pub record AreWithStaged (among : List File → List File → Type 0) (index : List IndexEntry) (inner files : List File) : Type 0 where
  pub staged : List File
  pub each : All (IsStagedFile index inner) staged
  pub within : List File
  pub all : IsPermutation (inner ++ staged) within
  pub order : IsSortedByKey (λ file. file.folder) (slice_cmp nat_cmp) within
  pub others : among within files
