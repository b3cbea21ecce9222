-- A table of the directories that were listed.
use Rattle.std.specs.Prelude.{◌≡◌, ℕ, Bool, true, false, ◌||◌, List, [], ◌∷◌, Option, Some, None, IfSome, is_some}
use Rattle.std.specs.FinMap as paths
use Rattle.status_base.specs.ListedNodes.{Listing, MayList, directory_of, file_name_of, stat_in_listing}
use Rattle.status_base.specs.MemoryTree.{PathMap}
use Rattle.status_base.specs.declared.fscache.Stat.{Stat}

-- The names in a directory. A directory that can't be listed has none.
abbrev pub Names : Type 0
Names = PathMap Stat

-- The names in each directory that was listed.
abbrev pub Table : Type 0
Table = PathMap Names

-- The stat of a name. An empty name isn't looked up.
abbrev pub stat_of_name : List ℕ → Option Names → Option Stat
stat_of_name [] names = None
stat_of_name (b ∷ name) None = None
stat_of_name (b ∷ name) (Some names) = paths.get names (b ∷ name)

-- The stat that a table has for a path.
abbrev pub stat_in_table : Table → List ℕ → Option Stat
stat_in_table table path = stat_of_name (file_name_of path) (paths.get table (directory_of path))

abbrev pub is_empty : List ℕ → Bool
is_empty [] = true
is_empty (b ∷ name) = false

-- Whether a look-up needs no listing: the file name is empty, or the directory was listed.
abbrev pub needs_none : Table → List ℕ → Bool
needs_none table path = is_empty (file_name_of path) || is_some (paths.get table (directory_of path))

-- A table is unchanged, or a directory's names were put into it.
abbrev pub IsPutUnless : Bool → List ℕ → Table → Table → Type 0
IsPutUnless true directory old new = new ≡ old
IsPutUnless false directory old new = (names : Names) × (new ≡ paths.insert old directory names)

-- A path's directory is listed at most once, and not for an empty file name. A look-up lists no other directory.
abbrev pub HasListedOnce : List ℕ → Table → Table → Type 0
HasListedOnce path old new = IsPutUnless (needs_none old path) (directory_of path) old new

-- These are the names of a listing.
abbrev pub AreNamesOf : Listing → Names → Type 0
AreNamesOf listing names = (name : List ℕ) → stat_of_name name (Some names) ≡ stat_in_listing listing name

-- For each of its directories a table has the names of the directory's listing.
abbrev pub HasListedNames : (List ℕ → Listing) → Table → Type 0
HasListedNames listing table = (directory : List ℕ) → IfSome (paths.get table directory) (AreNamesOf (listing directory))

-- These are the names of a listing of the directory that may be returned.
pub record AreNamesSeen (may : MayList) (directory : List ℕ) (names : Names) : Type 0 where
  pub listing : Listing
  pub allowed : may directory listing
  pub names_of : AreNamesOf listing names

-- For each of its directories a table has the names of a listing that may be returned.
abbrev pub HasListedSeen : MayList → Table → Type 0
HasListedSeen may table = (directory : List ℕ) → IfSome (paths.get table directory) (AreNamesSeen may directory)

-- A listing of the path's directory that may be returned has this stat for the path.
pub record IsStatListed (may : MayList) (path : List ℕ) (stat : Stat) : Type 0 where
  pub listing : Listing
  pub allowed : may (directory_of path) listing
  pub has : stat_in_listing listing (file_name_of path) ≡ Some stat
