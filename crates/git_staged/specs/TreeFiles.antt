-- The files of a tree (gitformat-index, `git read-tree`), in any store whose objects have the ids by which they are asked for.
use Rattle.std.specs.Prelude.{◌≡◌, ◌⊎◌, ℕ, zero, suc, ◌/◌, ◌%◌, ◌==◌, Bool, true, false, List, [], ◌∷◌, ◌++◌, map, if◌then◌else◌}
use Rattle.std.specs.List.{flat_map, AllByRecursion}
use Rattle.status_index.specs.declared.id.HashKind.{HashKind}
use Rattle.status_index.specs.declared.id.ObjectId.{ObjectId}
use Rattle.status_index.specs.declared.mode.Mode.{Mode}
use Rattle.status_index.specs.declared.mode.Mode.TheVariants.{Dir, File, FileExecutable, Symlink, Commit}
use Rattle.status_index.specs.BlobId.{id_kind}
use Rattle.status_index.specs.Mode.{mode_bits}
use Rattle.status_index.specs.Entries.{IndexEntry}
use Rattle.git_objects.specs.declared.object.ObjectKind.TheVariants.{Tree}
use Rattle.git_objects.specs.declared.tree.TreeItem.{TreeItem}
use Rattle.git_objects.specs.Contents.{BeginsWith}
use Rattle.git_objects.specs.Objects.{id_of_object}

-- A tree has exactly these items.
abbrev pub AreItems : HashKind → List ℕ → List TreeItem → Type 0
AreItems hash bytes [] = bytes ≡ []
AreItems hash bytes (item ∷ items) = (rest : List ℕ) × BeginsWith hash bytes item rest × AreItems hash rest items

-- The mode that git has for one of a tree: only its type counts, and of a file whether its owner may execute it.
abbrev pub file_mode : ℕ → Mode
file_mode bits = if bits / 0x40 % 2 == 0 then File else FileExecutable

abbrev pub mode_of_type : ℕ → ℕ → Mode
mode_of_type type bits =
    if type == 0x4 then Dir else (if type == 0x8 then file_mode bits else (if type == 0xA then Symlink else Commit))

abbrev pub tree_mode : ℕ → Mode
tree_mode bits = mode_of_type (bits / 0x1000 % 0x10) bits

-- An entry of a file with this path, mode and id, without flags.
pub record IsFile (path : List ℕ) (mode : Mode) (id : ObjectId) (e : IndexEntry) : Type 0 where
  pub path_is : e.path ≡ path
  pub mode_is : e.mode ≡ mode
  pub id_is : e.id ≡ id
  pub flags : e.flags.0 ≡ 0

abbrev pub is_folder : Mode → Bool
is_folder mode = mode_bits mode == 0x4000

-- The entries of an item of a folder: those of the folder that it is, or the one of the file.
abbrev pub ItemOf : (ObjectId → List ℕ → List IndexEntry → Type 0) → Bool → List ℕ → Mode → ObjectId → List IndexEntry → Type 0
ItemOf folder true path mode id es = folder id (path ++ 47 ∷ []) es
ItemOf folder false path mode id es = (e : IndexEntry) × (es ≡ e ∷ []) × IsFile path mode id e

abbrev pub IsItem : (ObjectId → List ℕ → List IndexEntry → Type 0) → List ℕ → TreeItem → List IndexEntry → Type 0
IsItem folder path item es = ItemOf folder (is_folder (tree_mode item.mode)) (path ++ item.name.now) (tree_mode item.mode) item.id es

-- An item, and its entries.
pub record Part : Type 0 where
  pub item : TreeItem
  pub entries : List IndexEntry

-- The object of this id is a tree, and these are the entries of its items.
pub record HasItems (folder : ObjectId → List ℕ → List IndexEntry → Type 0) (id : ObjectId) (path : List ℕ) (es : List IndexEntry) : Type 0 where
  pub bytes : List ℕ
  pub object : id_of_object (id_kind id) Tree bytes ≡ id
  pub parts : List Part
  pub items : AreItems (id_kind id) bytes (map (λ p. p.item) parts)
  pub each : AllByRecursion (λ p. IsItem folder path p.item p.entries) parts
  pub entries : es ≡ flat_map (λ p. p.entries) parts

-- Which entries count as the files below a folder's path, whose tree has this id, although it isn't read.
abbrev pub Known : Type 1
Known = ObjectId → List ℕ → List IndexEntry → Type 0

-- The files below a folder with this path, whose tree has this id. So many folders may be within each other.
abbrev pub HasFiles : Known → ℕ → ObjectId → List ℕ → List IndexEntry → Type 0
HasFiles known zero id path es = ⊥
HasFiles known (suc depth) id path es = known id path es ⊎ HasItems (HasFiles known depth) id path es

-- No files are known.
abbrev pub nothing_known : Known
nothing_known id path es = ⊥

-- The entries are the files of the tree of this id, each of whose folders is read.
abbrev pub AreFilesOf : ObjectId → List IndexEntry → Type 0
AreFilesOf id es = (depth : ℕ) × HasFiles nothing_known depth id [] es
