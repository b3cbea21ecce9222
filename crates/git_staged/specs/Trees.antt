-- The tree that the entries of an index make, and its id.
use Rattle.std.specs.Prelude.{ℕ, ◌-◌, ◌==◌, Bool, not, List, [], ◌∷◌, ◌++◌, length, take, slice_index, codes, if◌then◌else◌}
use Rattle.std.specs.List.{list_any, slice_split}
use Rattle.std.specs.Str.{bytes_eq}
use Rattle.git_objects.specs.declared.object.ObjectKind.TheVariants.{Tree}
use Rattle.git_objects.specs.Objects.{id_of_object}
use Rattle.status_index.specs.declared.id.HashKind.{HashKind}
use Rattle.status_index.specs.declared.id.ObjectId.{ObjectId}
use Rattle.status_index.specs.declared.mode.Mode.{Mode}
use Rattle.status_index.specs.declared.mode.Mode.TheVariants.{Dir, File, FileExecutable, Symlink, Commit}
use Rattle.status_index.specs.declared.entry.TheConstants.Flags.{INTENT_TO_ADD}
use Rattle.status_index.specs.BlobId.{id_bytes}
use Rattle.status_index.specs.Entries.{IndexEntry, stage_of}
use Rattle.status_index.specs.FlagBits.{has_bits}

-- The items of a tree: none, or items and one more after them, a leaf or a folder. A folder has items itself.
pub data Items : Type 0 where
  no_items : Items
  and_leaf : Items → (name : List ℕ) → Mode → ObjectId → Items
  and_folder : Items → (name : List ℕ) → (inner : Items) → Items

-- Items without the last one, if that is the folder of this name.
abbrev pub before_folder : List ℕ → Items → Items
before_folder name no_items = no_items
before_folder name (and_leaf items other mode id) = and_leaf items other mode id
before_folder name (and_folder items other inner) = if bytes_eq other name then items else and_folder items other inner

-- The items in the last one, if that is the folder of this name, and otherwise none.
abbrev pub in_folder : List ℕ → Items → Items
in_folder name no_items = no_items
in_folder name (and_leaf items other mode id) = no_items
in_folder name (and_folder items other inner) = if bytes_eq other name then inner else no_items

-- Items and one more leaf, below a path of components. The last component is the leaf's name. If there are others, the
-- leaf is put into the last item if that is the folder of the first one's name, and otherwise into a new folder.
abbrev pub put : List (List ℕ) → Mode → ObjectId → Items → Items
put [] mode id items = items
put (name ∷ path) mode id items =
    if length path == 0 then and_leaf items name mode id
    else and_folder (before_folder name items) name (put path mode id (in_folder name items))

abbrev pub is_slash : ℕ → Bool
is_slash b = b == 47

-- The parts between the slashes.
abbrev pub components : List ℕ → List (List ℕ)
components path = slice_split is_slash path

-- The path of an entry's item: without the slash at its end if the entry is a folder of a sparse index.
abbrev pub path_of_item : Mode → List ℕ → List ℕ
path_of_item Dir path = if is_slash (slice_index path (length path - 1)) then take (length path - 1) path else path
path_of_item File path = path
path_of_item FileExecutable path = path
path_of_item Symlink path = path
path_of_item Commit path = path

-- Items and one more entry of an index. An entry of `git add -N` is left out.
abbrev pub and_entry : Items → IndexEntry → Items
and_entry items e =
    if has_bits e.flags.0 INTENT_TO_ADD.0 then items
    else put (components (path_of_item e.mode e.path)) e.mode e.id items

-- Items and these entries, in order.
abbrev pub and_entries : Items → List IndexEntry → Items
and_entries items [] = items
and_entries items (e ∷ es) = and_entries (and_entry items e) es

-- A mode in octal. That of a folder has no zero in front.
abbrev pub octal_mode : Mode → List ℕ
octal_mode Dir = codes "40000"
octal_mode File = codes "100644"
octal_mode FileExecutable = codes "100755"
octal_mode Symlink = codes "120000"
octal_mode Commit = codes "160000"

-- What precedes an item's id: its mode, a space, its name and a zero byte.
abbrev pub item_start : Mode → List ℕ → List ℕ
item_start mode name = octal_mode mode ++ codes " " ++ name ++ 0 ∷ []

abbrev pub item_bytes : Mode → List ℕ → ObjectId → List ℕ
item_bytes mode name id = item_start mode name ++ id_bytes id

-- The id of the tree object with these bytes.
abbrev pub tree_object_id : HashKind → List ℕ → ObjectId
tree_object_id kind bytes = id_of_object kind Tree bytes

-- The bytes of a tree: those of its items, in order. A folder's item has the id of the folder's own tree.
abbrev pub tree_bytes : HashKind → Items → List ℕ
tree_bytes kind no_items = []
tree_bytes kind (and_leaf items name mode id) = tree_bytes kind items ++ item_bytes mode name id
tree_bytes kind (and_folder items name inner) = tree_bytes kind items ++ item_bytes Dir name (tree_object_id kind (tree_bytes kind inner))

abbrev pub tree_id_of : HashKind → Items → ObjectId
tree_id_of kind items = tree_object_id kind (tree_bytes kind items)

-- The id of the tree that the entries of an index make.
abbrev pub index_tree_id : HashKind → List IndexEntry → ObjectId
index_tree_id kind es = tree_id_of kind (and_entries no_items es)

-- Whether an entry is a side of a conflict.
abbrev pub has_conflict : List IndexEntry → Bool
has_conflict es = list_any (λ e. not (stage_of e == 0)) es
