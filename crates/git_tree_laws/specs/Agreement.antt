-- A tree that was made of entries has the files that are read of it, up to a collision.
use mathlib.Core.Logic.{inl, inr}
use Rattle.std.specs.Prelude.{◌≡◌, ◌≢◌, ◌⊎◌, ℕ, zero, suc, Bool, true, false, not, List, [], ◌∷◌, ◌++◌, Some, length, map, All}
use Rattle.std.specs.List.{filter, AllByRecursion}
use Rattle.status_index.specs.declared.id.HashKind.{HashKind}
use Rattle.status_index.specs.declared.id.ObjectId.{ObjectId}
use Rattle.status_index.specs.declared.mode.Mode.{Mode}
use Rattle.status_index.specs.declared.mode.Mode.TheVariants.{Dir}
use Rattle.status_index.specs.BlobId.{id_bytes, id_kind}
use Rattle.status_index.specs.Entries.{IndexEntry}
use Rattle.git_objects.specs.Contents.{id_len}
use Rattle.git_objects.specs.Splits.{Lacks}
use Rattle.git_staged.specs.Folders.{inside}
use Rattle.git_staged.specs.Letters.{is_intended}
use Rattle.git_staged.specs.Staged.{AreHeadFiles, IsWritten}
use Rattle.git_staged.specs.TreeFiles.{AreFilesOf, HasFiles, IsItem, ItemOf, Known, Part, is_folder, nothing_known, tree_mode}
use Rattle.git_staged.specs.Trees.{Items, no_items, and_leaf, and_folder, and_entries, index_tree_id, tree_bytes, tree_object_id}

-- A tree has these of a file: its path, its mode and its id.
abbrev pub file_of : IndexEntry → List ℕ × Mode × ObjectId
file_of e = (e.path, e.mode, e.id)

-- The same files, in the same order.
abbrev pub SameFiles : List IndexEntry → List IndexEntry → Type 0
SameFiles es fs = map file_of es ≡ map file_of fs

-- An id of this kind, with as many bytes as ids of the kind have.
abbrev pub IsId : HashKind → ObjectId → Type 0
IsId kind id = (id_kind id ≡ kind) × (length (id_bytes id) ≡ id_len kind)

abbrev pub HaveIds : HashKind → List IndexEntry → Type 0
HaveIds kind es = All (λ e. IsId kind e.id) es

-- Entries of files: no path has a zero byte, and none is a folder of a sparse index.
abbrev pub AreFiles : List IndexEntry → Type 0
AreFiles es = All (λ e. Lacks 0 e.path × (e.mode ≢ Dir)) es

-- The first items are those of a folder within the second ones.
abbrev pub AreWithin : Items → Items → Type 0
AreWithin inner no_items = ⊥
AreWithin inner (and_leaf items name mode id) = AreWithin inner items
AreWithin inner (and_folder items name folder) = AreWithin inner items ⊎ (inner ≡ folder) ⊎ AreWithin inner folder

-- The content of a tree of these items: their own, or a folder's.
abbrev pub IsMade : HashKind → Items → List ℕ → Type 0
IsMade kind items content = (inner : Items) × ((inner ≡ items) ⊎ AreWithin inner items) × (content ≡ tree_bytes kind inner)

-- Which contents of trees the files below a folder's path were found by.
abbrev pub ContentOf : Known → Type 1
ContentOf folder = (id : ObjectId) (path : List ℕ) (es : List IndexEntry) → folder id path es → List ℕ → Type 0

-- A content by which an item's entries were found. A file's entry needs none.
abbrev pub IsOfItem : (folder : Known) → ContentOf folder → (b : Bool) (path : List ℕ) (mode : Mode) (id : ObjectId) (es : List IndexEntry) → ItemOf folder b path mode id es → List ℕ → Type 0
IsOfItem folder of true path mode id es files content = of id (path ++ 47 ∷ []) es files content
IsOfItem folder of false path mode id es file content = ⊥

-- A content by which the entries of one of the parts were found.
abbrev pub IsOfParts : (folder : Known) → ContentOf folder → (path : List ℕ) (parts : List Part) → AllByRecursion (λ p. IsItem folder path p.item p.entries) parts → List ℕ → Type 0
IsOfParts folder of path [] each content = ⊥
IsOfParts folder of path (p ∷ parts) each content =
    IsOfItem folder of (is_folder (tree_mode p.item.mode)) (path ++ p.item.name.now) (tree_mode p.item.mode) p.item.id p.entries each.0 content
    ⊎ IsOfParts folder of path parts each.1 content

-- The content of a tree that was read, the whole one or a folder's, or a content by which files are known.
abbrev pub IsContent : (known : Known) → ContentOf known → (depth : ℕ) → ContentOf (HasFiles known depth)
IsContent known of zero id path es never content = ⊥
IsContent known of (suc depth) id path es (inl files) content = of id path es files content
IsContent known of (suc depth) id path es (inr h) content =
    (content ≡ h.bytes) ⊎ IsOfParts (HasFiles known depth) (IsContent known of depth) path h.parts h.each content

-- The content of a tree that was read. Each folder was.
abbrev pub IsRead : (depth : ℕ) → ContentOf (HasFiles nothing_known depth)
IsRead depth = IsContent nothing_known (λ id path es never content. ⊥) depth

-- The content of a tree that was read, or that `git write-tree` makes of the entries of a folder that wasn't.
abbrev pub IsFound : (index : List IndexEntry) (depth : ℕ) → ContentOf (HasFiles (IsWritten index) depth)
IsFound index depth =
    IsContent (IsWritten index) (λ id path es w content. IsMade (id_kind id) (and_entries no_items (map (inside (length path)) w.run)) content) depth

-- A collision: two contents, one of each side, differ and have the same id.
pub record Collision (kind : HashKind) (IsOne IsOther : List ℕ → Type 0) : Type 0 where
  pub one : List ℕ
  pub other : List ℕ
  pub is_one : IsOne one
  pub is_other : IsOther other
  pub differ : one ≢ other
  pub same : tree_object_id kind one ≡ tree_object_id kind other

-- Files of HEAD's tree, some of whose folders were made of an index's entries, are its files when each folder is read.
abbrev pub HeadIsReadableLaw : List IndexEntry → ObjectId → List IndexEntry → Type 0
HeadIsReadableLaw index id es = AreFiles index → HaveIds (id_kind id) index → AreHeadFiles index (Some id) es → AreFilesOf id es

-- Whoever reads each folder finds the same files, or a tree that they read collides with one that was found before.
abbrev pub HeadIsReadLaw : (index : List IndexEntry) → ObjectId → (es fs : List IndexEntry) → Type 0
HeadIsReadLaw index id es fs =
    AreFiles index → HaveIds (id_kind id) index → (head : AreHeadFiles index (Some id) es) → (read : AreFilesOf id fs)
    → SameFiles es fs ⊎ Collision (id_kind id) (IsFound index head.0 id [] es head.1) (IsRead read.0 id [] fs read.1)

-- The entries of an index that makes a tree, except those of `git add -N`, are the files that are read of the tree, or a tree
-- that the index makes collides with one that was read.
abbrev pub WrittenIsReadLaw : (index : List IndexEntry) → ObjectId → (fs : List IndexEntry) → Type 0
WrittenIsReadLaw index id fs =
    AreFiles index → HaveIds (id_kind id) index → index_tree_id (id_kind id) index ≡ id → (read : AreFilesOf id fs)
    → SameFiles (filter (λ e. not (is_intended e)) index) fs
    ⊎ Collision (id_kind id) (IsMade (id_kind id) (and_entries no_items index)) (IsRead read.0 id [] fs read.1)
