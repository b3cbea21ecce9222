-- The folders of an index, and the ids of the trees that they make.
use Rattle.std.specs.Prelude.{◌≡◌, ◌≤◌, ◌<◌, ℕ, not, false, List, ◌∷◌, ◌++◌, length, take, drop, map, All}
use Rattle.std.specs.List.{filter, slice_index_or, slice_range, AllByRecursion}
use Rattle.status_index.specs.declared.id.HashKind.{HashKind}
use Rattle.status_index.specs.declared.id.ObjectId.{ObjectId}
use Rattle.status_index.specs.declared.entry.Flags.{Flags}
use Rattle.status_index.specs.Entries.{IndexEntry}
use Rattle.status_index.specs.States.{index_of}
use Rattle.git_staged.specs.declared.builder.Folder.{Folder}
use Rattle.git_staged.specs.declared.builder.MadeTree.{MadeTree}
use Rattle.git_staged.specs.declared.known.KnownFolders.{KnownFolders}
use Rattle.git_staged.specs.Letters.{is_intended}
use Rattle.git_staged.specs.Trees.{Items, no_items, and_entries, index_tree_id, tree_id_of}

-- An entry by its path inside of a folder, whose own path has this length.
abbrev pub inside : ℕ → IndexEntry → IndexEntry
inside len e = record e { path = drop len e.path }

-- An entry is below this path, or is one of `git add -N`, which is in no tree.
abbrev pub IsBelow : List ℕ → IndexEntry → Type 0
IsBelow path e = is_intended e ≡ false → (rest : List ℕ) × (e.path ≡ path ++ rest)

-- The first of these entries isn't one of `git add -N`.
abbrev pub BeginsStaged : List IndexEntry → Type 0
BeginsStaged es = (e : IndexEntry) × (more : List IndexEntry) × (es ≡ e ∷ more) × (is_intended e ≡ false)

-- The entries from one number up to another are below this path, and make these items of its folder.
pub record IsRun (es : List IndexEntry) (path : List ℕ) (first end : ℕ) (items : Items) : Type 0 where
  pub before : List IndexEntry
  pub run : List IndexEntry
  pub split : take end es ≡ before ++ run
  pub number : length before ≡ first
  pub begins : BeginsStaged run
  pub below : AllByRecursion (IsBelow path) run
  pub makes : and_entries no_items (map (inside (length path)) run) ≡ items

-- A folder of these entries, with the id of its tree.
pub record IsFolder (kind : HashKind) (es : List IndexEntry) (f : Folder) : Type 0 where
  pub path : List ℕ
  pub len : length path ≡ f.path_len
  pub items : Items
  pub run : IsRun es path f.first f.end items
  pub within : f.end ≤ length es
  pub id : f.id ≡ tree_id_of kind items

-- The tree that these entries make.
pub record IsTreeOf (kind : HashKind) (es : List IndexEntry) (made : MadeTree) : Type 0 where
  pub id : made.id ≡ index_tree_id kind es
  pub folders : All (IsFolder kind es) made.folders.items

-- An entry with these flags.
abbrev pub with_flags : Flags → IndexEntry → IndexEntry
with_flags flags e = record e { flags = flags }

-- The files that some entries of an index are: those that aren't of `git add -N`, with these flags.
abbrev pub copies : Flags → List IndexEntry → List IndexEntry
copies flags es = map (with_flags flags) (filter (λ e. not (is_intended e)) es)

-- The path of the entry of this number begins with one of this length.
abbrev pub FrontOf : List IndexEntry → ℕ → ℕ → List ℕ → Type 0
FrontOf es number len path = (length path ≡ len) × ((d : IndexEntry) → (rest : List ℕ) × ((slice_index_or es number d).path ≡ path ++ rest))

-- One of these folders of an index is at this path and has this id, and these are its files.
pub record IsKnown (k : KnownFolders) (id : ObjectId) (path : List ℕ) (files : List IndexEntry) : Type 0 where
  pub folder : Folder
  pub number : ℕ
  pub within : number < length k.folders.now
  pub listed : (d : Folder) → slice_index_or k.folders.now number d ≡ folder
  pub id_is : folder.id ≡ id
  pub front : FrontOf (index_of k.index.now) folder.first folder.path_len path
  pub flags : Flags
  pub plain : flags.0 ≡ 0
  pub are : files ≡ copies flags (slice_range (index_of k.index.now) folder.first folder.end)
