-- The steps of a search for attribute files: one path, one folder, some folders.
use Rattle.std.specs.Prelude.{◌≡◌, ◌≢◌, ◌<◌, ◌≤◌, ℕ, nat_eq, Bool, true, false, List, [], ◌∷◌, ◌++◌, length, take, drop, Option, Some, None, Result}
use Rattle.std.specs.List.{starts_with}
use Rattle.status_index.specs.Content.{Content}
use Rattle.status_index.specs.declared.fault.Fault.{Fault}
use Rattle.status_index.specs.declared.stat.Metadata.{Metadata}
use Rattle.status_base.specs.LinkCheck.{LinkCheck, accepted, link_check}
use Rattle.status_base.specs.Openings.{MayOpen}
use Rattle.status_base.specs.Sights.{Stats, MayStat, AreAllowed}
use Rattle.git_attributes.specs.Files.{File}
use Rattle.git_attributes.specs.WorktreeFiles.{FolderView, Search, found, nothing, folders_from, file_path, checked_search, node_search, opened_search, path_search, search_by, file_of, IsAllowed, AreFilesSeen}
use Rattle.git_attributes.specs.declared.worktree_files.Found.{Found}
use Rattle.git_attributes.specs.declared.worktree_files.Found.TheVariants.{File as FoundFile, NoFile, NoFolder}

-- A file was read, or there is none that can be.
abbrev pub read_search : Option (List ℕ) → Search
read_search (Some bytes) = found bytes
read_search None = nothing

-- The file that was read at a path is the one that is found by results that may be returned.
pub record IsReadSeen (may_stat : Result Metadata Fault → Type 0) (may_open : MayOpen) (read : Option (List ℕ)) : Type 0 where
  pub node : Result Metadata Fault
  pub node_allowed : may_stat node
  pub opened : Result Content Fault
  pub opened_allowed : may_open opened
  pub same : node_search node opened ≡ read_search read

-- The bytes are a content that may be read of a file that is opened, up to its end.
pub record IsOpenSeen (may_open : MayOpen) (read : Option (List ℕ)) : Type 0 where
  pub opened : Result Content Fault
  pub allowed : may_open opened
  pub same : opened_search opened ≡ read_search read

-- The code's result as a result of the definitions.
abbrev pub found_search : Found → Search
found_search (FoundFile bytes) = found bytes.items
found_search NoFile = nothing
found_search NoFolder = nothing

-- The result at a path that the link check refuses.
pub record IsRefusalOf (check : LinkCheck) (it : Found) : Type 0 where
  pub search : (at_path : Search) → checked_search check at_path ≡ found_search it
  pub refused : check ≢ accepted

-- The result at a path is the one by results that may be returned. There is no folder only if the link check refuses the path.
pub record IsPathSeen (may_stat : MayStat) (may_open : List ℕ → MayOpen) (path : List ℕ) (it : Found) : Type 0 where
  pub lstat : Stats
  pub allowed : AreAllowed may_stat lstat
  pub opened : Result Content Fault
  pub opened_allowed : may_open path opened
  pub search : path_search lstat opened path ≡ found_search it
  pub refused : it ≡ NoFolder → link_check lstat path ≢ accepted

-- The file of a folder was added, if it is found. There may be folders below unless the link check refuses the file's path.
pub record IsFolderAdded (may_stat : MayStat) (may_open : List ℕ → MayOpen) (folder : List ℕ) (goes_on : Bool) (old new : List File) : Type 0 where
  pub view : FolderView
  pub of_folder : view.folder ≡ folder
  pub allowed : IsAllowed may_stat may_open view
  pub added : new ≡ old ++ file_of view.folder (search_by view)
  pub refused : goes_on ≡ false → link_check view.lstat (file_path folder) ≢ accepted

-- The files of some folders were added.
pub record AreAdded (may_stat : MayStat) (may_open : List ℕ → MayOpen) (folders : List (List ℕ)) (old new : List File) : Type 0 where
  pub files : List File
  pub seen : AreFilesSeen may_stat may_open folders files
  pub added : new ≡ old ++ files

-- The next folder on the way to a path ends here, or there is none.
abbrev pub IsNextFolder : List ℕ → ℕ → Option ℕ → Type 0
IsNextFolder path at None = folders_from (take at path) (drop at path) ≡ []
IsNextFolder path at (Some end) =
    (at < end) × (end ≤ length path) × ((before : List ℕ) × (take end path ≡ before ++ 47 ∷ []))
    × (folders_from (take at path) (drop at path) ≡ take end path ∷ folders_from (take end path) (drop end path))

-- A path begins with a folder's path, and no slash follows.
pub record IsIn (folder path : List ℕ) : Type 0 where
  pub begins : starts_with nat_eq path folder ≡ true
  pub bare : folders_from (take (length folder) path) (drop (length folder) path) ≡ []
