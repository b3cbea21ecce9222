-- The parts of a tree that is read.
use Rattle.std.proofs.Common.{◌≡◌, ◌≢◌, ℕ, false, List, ◌∷◌, ◌++◌, map, refl, ◌∙◌, ap}
use Rattle.std.specs.List.{flat_map, AllByRecursion}
use Rattle.std.proofs.lemmas.List.{map-append}
use Rattle.std.proofs.lemmas.List.Concat.{flat_map-cons}
use Rattle.status_index.specs.declared.id.ObjectId.{ObjectId}
use Rattle.status_index.specs.declared.mode.Mode.{Mode}
use Rattle.status_index.specs.declared.mode.Mode.TheVariants.{Dir, File, FileExecutable, Symlink, Commit}
use Rattle.status_index.specs.Entries.{IndexEntry}
use Rattle.git_objects.specs.declared.tree.TreeItem.{TreeItem}
use Rattle.git_tree_laws.specs.Agreement.{file_of}
use Rattle.git_staged.specs.TreeFiles.{HasFiles, IsItem, Known, Part, is_folder, nothing_known}

-- A file of a tree: its path, its mode and its id.
abbrev pub FileInTree : Type 0
FileInTree = List ℕ × Mode × ObjectId

abbrev a_file : List ℕ → Mode → ObjectId → FileInTree
a_file path mode id = (path, mode, id)

pub as_file : {p q : List ℕ} {m n : Mode} {i j : ObjectId} → p ≡ q → m ≡ n → i ≡ j → a_file p m i ≡ a_file q n j
as_file {q = q} {m = m} {n = n} {i = i} a b c = ap (λ p. a_file p m i) a ∙ (ap (λ m. a_file q m i) b ∙ ap (a_file q n) c)

abbrev pub item_of : Part → TreeItem
item_of p = p.item

abbrev pub entries_of : Part → List IndexEntry
entries_of p = p.entries

abbrev pub files_of : List Part → List FileInTree
files_of ps = map file_of (flat_map entries_of ps)

-- So many folders may be within each other, and each is read.
abbrev pub ReadTo : ℕ → Known
ReadTo d = HasFiles nothing_known d

abbrev pub AreParts : Known → List ℕ → List Part → Type 0
AreParts F path ps = AllByRecursion (λ p. IsItem F path p.item p.entries) ps

pub files_first : (q : Part) (qs : List Part) → files_of (q ∷ qs) ≡ map file_of q.entries ++ files_of qs
files_first q qs = ap (map file_of) (flat_map-cons entries_of q qs) ∙ map-append file_of q.entries (flat_map entries_of qs)

pub no_folder : (mode : Mode) → mode ≢ Dir → is_folder mode ≡ false
no_folder Dir file = absurd (file refl)
no_folder File file = refl
no_folder FileExecutable file = refl
no_folder Symlink file = refl
no_folder Commit file = refl
