-- The open folders, while a tree is made.
use Rattle.std.specs.Prelude.{◌≡◌, ◌≢◌, ◌≤◌, ℕ, suc, List, [], ◌∷◌, ◌++◌, length, take, false, All, ⊤}
use Rattle.std.specs.List.{AllByRecursion}
use Rattle.status_index.specs.declared.id.HashKind.{HashKind}
use Rattle.status_index.specs.declared.id.ObjectId.{ObjectId}
use Rattle.status_index.specs.declared.mode.Mode.{Mode}
use Rattle.status_index.specs.declared.mode.Mode.TheVariants.{Dir}
use Rattle.status_index.specs.Entries.{IndexEntry}
use Rattle.git_staged.specs.declared.builder.TreeBuilder.{TreeBuilder}
use Rattle.git_staged.specs.declared.builder.Mark.{Mark}
use Rattle.git_staged.specs.Folders.{IsFolder, IsRun}
use Rattle.git_staged.specs.Letters.{is_intended}
use Rattle.git_staged.specs.Trees.{Items, no_items, and_entries, and_leaf, and_folder, is_slash, item_start, path_of_item, tree_bytes}

-- An open folder: the number of its first entry, the items before it in its parent, and its name. Lists of them begin with
-- the innermost one.
pub record Frame : Type 0 where
  pub first : ℕ
  pub before : Items
  pub name : List ℕ

-- All items of the tree, if these are the innermost open folder's.
abbrev pub all_items : List Frame → Items → Items
all_items [] t = t
all_items (f ∷ fs) t = all_items fs (and_folder f.before f.name t)

-- The path of the innermost open folder, with a slash after each component.
abbrev pub folder_path : List Frame → List ℕ
folder_path [] = []
folder_path (f ∷ fs) = folder_path fs ++ (f.name ++ 47 ∷ [])

-- The bytes before those of the innermost open folder.
abbrev pub open_bytes : HashKind → List Frame → List ℕ
open_bytes kind [] = []
open_bytes kind (f ∷ fs) = open_bytes kind fs ++ tree_bytes kind f.before ++ item_start Dir f.name

-- The marks of the open folders, the outermost first.
abbrev pub marks_of : HashKind → List Frame → List Mark
marks_of kind [] = []
marks_of kind (f ∷ fs) = marks_of kind fs ++ record { first = f.first; path_len = length (folder_path fs); start = length (open_bytes kind (f ∷ fs)) } ∷ []

-- A component of a path: it has no slash.
abbrev pub IsName : List ℕ → Type 0
IsName name = All (λ b. is_slash b ≡ false) name

-- A path is its first component, a slash, and the rest.
abbrev pub IsFirst : List ℕ → List ℕ → List ℕ → Type 0
IsFirst path name rest = IsName name × (path ≡ name ++ 47 ∷ rest)

abbrev pub HasName : Frame → Type 0
HasName f = IsName f.name

-- The open folders are these, and the innermost one has these items.
pub record IsStack (kind : HashKind) (s : TreeBuilder) (fs : List Frame) (t : Items) : Type 0 where
  pub bytes : s.bytes.items ≡ open_bytes kind fs ++ tree_bytes kind t
  pub path : s.path.items ≡ folder_path fs
  pub marks : s.marks.items ≡ marks_of kind fs
  pub named : AllByRecursion HasName fs

-- The entries before this number make the items of the open folders, the innermost of which has these.
abbrev pub Runs : List IndexEntry → ℕ → List Frame → Items → Type 0
Runs es number [] t = t ≡ and_entries no_items (take number es)
Runs es number (f ∷ fs) t = IsRun es (folder_path (f ∷ fs)) f.first number t × Runs es number fs (and_folder f.before f.name t)

-- The entries before this number are in the tree, whose open folders are these, and the closed ones are noted.
pub record IsOpen (kind : HashKind) (es : List IndexEntry) (number : ℕ) (s : TreeBuilder) (fs : List Frame) (t : Items) : Type 0 where
  pub stack : IsStack kind s fs t
  pub runs : Runs es number fs t
  pub folders : All (IsFolder kind es) s.folders.items
  pub within : number ≤ length es

-- The entries before this number are in the tree. The predicate holds of the open folders and of the innermost one's items.
abbrev pub Makes : HashKind → List IndexEntry → ℕ → TreeBuilder → (List Frame → Items → Type 0) → Type 0
Makes kind es number s P = (fs : List Frame) × (t : Items) × IsOpen kind es number s fs t × P fs t

-- The entry of this number has a leaf with this path, mode and id.
pub record IsStaged (es : List IndexEntry) (number : ℕ) (path : List ℕ) (mode : Mode) (id : ObjectId) : Type 0 where
  pub entry : IndexEntry
  pub next : take (suc number) es ≡ take number es ++ entry ∷ []
  pub staged : is_intended entry ≡ false
  pub path_is : path_of_item entry.mode entry.path ≡ path
  pub mode_is : entry.mode ≡ mode
  pub id_is : entry.id ≡ id

-- If the last item is a folder, then it doesn't contain this path.
abbrev pub IsAfterLast : List ℕ → List Frame → Items → Type 0
IsAfterLast path fs no_items = ⊤
IsAfterLast path fs (and_leaf t name mode id) = ⊤
IsAfterLast path fs (and_folder t name items) = (rest : List ℕ) → path ≢ (folder_path fs ++ (name ++ 47 ∷ [])) ++ rest

-- The last item isn't a folder.
abbrev pub HasNoLastFolder : List Frame → Items → Type 0
HasNoLastFolder fs t = (path : List ℕ) → IsAfterLast path fs t

-- The path is in the innermost open folder, with this rest, and it isn't in the last item there.
abbrev pub Reaches : HashKind → List IndexEntry → ℕ → TreeBuilder → List ℕ → List ℕ → Type 0
Reaches kind es number s path rest = Makes kind es number s (λ fs t. IsAfterLast path fs t × (path ≡ folder_path fs ++ rest))
