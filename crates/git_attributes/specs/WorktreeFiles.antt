-- Which attribute files a worktree has for an index.
use Rattle.std.specs.Prelude.{◌≡◌, ◌≢◌, ℕ, nat_eq, nat_lt, Bool, true, false, not, ◌&&◌, List, [], ◌∷◌, ◌++◌, length, map, filter, All, codes, Option, Some, None, Result, Ok, Err, if◌then◌else◌}
use Rattle.std.specs.List.{flat_map, starts_with}
use Rattle.status_index.specs.Answer.{IsAnswer}
use Rattle.status_index.specs.Content.{Content}
use Rattle.status_index.specs.Entries.{IndexEntry}
use Rattle.status_index.specs.declared.fault.Fault.{Fault}
use Rattle.status_index.specs.declared.fault.Fault.TheVariants.{Memory}
use Rattle.status_index.specs.declared.stat.Metadata.{Metadata}
use Rattle.status_index.specs.declared.stat.NodeKind.{NodeKind}
use Rattle.status_index.specs.declared.stat.NodeKind.TheVariants as kinds
use Rattle.status_base.specs.LinkCheck.{LinkCheck, accepted, empty_path, not_normal, through_link, faulty, link_check}
use Rattle.status_base.specs.Openings.{MayOpen, IsKnownOpening}
use Rattle.status_base.specs.Paths.{is_slash}
use Rattle.status_base.specs.Sights.{Stats, MayStat, AreAllowed}
use Rattle.git_attributes.specs.Files.{File}

-- ---- the folders that are searched

-- The folders on the way to a path, the shortest first: its fronts that end with a slash. A slash is the last byte of a front.
abbrev pub folders_from : List ℕ → List ℕ → List (List ℕ)
folders_from front [] = []
folders_from front (b ∷ path) =
    (if is_slash b then (front ++ b ∷ []) ∷ [] else []) ++ folders_from (front ++ b ∷ []) path

-- Those that aren't on the way to the path before it.
abbrev pub new_folders : List ℕ → List ℕ → List (List ℕ)
new_folders before path = filter (λ folder. not (starts_with nat_eq before folder)) (folders_from [] path)

-- Systems refuse a path of so many bytes or more.
abbrev pub path_limit : ℕ
path_limit = 4096

-- These folders, up to the first one of so many bytes.
abbrev pub up_to_long : List (List ℕ) → List (List ℕ)
up_to_long [] = []
up_to_long (folder ∷ folders) = folder ∷ (if nat_lt (length folder) path_limit then up_to_long folders else [])

abbrev pub folders_after : List ℕ → List IndexEntry → List (List ℕ)
folders_after before [] = []
folders_after before (e ∷ es) = up_to_long (new_folders before e.path) ++ folders_after e.path es

-- The path of the last of these entries, or the path before them if there is none.
abbrev pub last_path : List ℕ → List IndexEntry → List ℕ
last_path before [] = before
last_path before (e ∷ es) = last_path e.path es

-- The folders that are searched for an index: the worktree's top, and each folder on the way to an entry's path, in index
-- order. The entries of an index are in the order of their paths, so each comes once.
abbrev pub folders_of : List IndexEntry → List (List ℕ)
folders_of es = [] ∷ folders_after [] es

-- The path of a folder's attribute file.
abbrev pub file_path : List ℕ → List ℕ
file_path folder = folder ++ codes ".gitattributes"

-- ---- what is found in a folder

-- A folder, and a result of each call that may be made for its attribute file.
pub record FolderView : Type 0 where
  pub folder : List ℕ
  -- Of `lstat`, at the directories above the file's path and at the path itself.
  pub lstat : Stats
  -- Of opening the file and reading its content.
  pub opened : Result Content Fault

-- A file of these bytes is found, no file that can be read is, or memory runs out.
pub data Search : Type 0 where
  found : List ℕ → Search
  nothing : Search
  out_of_memory : Search

abbrev pub at_fault : Fault → Search
at_fault Memory = out_of_memory
at_fault f = nothing

-- A content that ends with a fault doesn't count.
abbrev pub at_end : List ℕ → Option Fault → Search
at_end bytes None = found bytes
at_end bytes (Some f) = at_fault f

abbrev pub opened_search : Result Content Fault → Search
opened_search (Ok content) = at_end content.bytes content.fault
opened_search (Err f) = at_fault f

abbrev pub is_file : NodeKind → Bool
is_file kinds.File = true
is_file kinds.Link = false
is_file kinds.Directory = false
is_file kinds.Other = false

-- As in git, a file of so many bytes or more doesn't count.
abbrev pub file_limit : ℕ
file_limit = 104857600

abbrev pub is_directory : NodeKind → Bool
is_directory kinds.File = false
is_directory kinds.Link = false
is_directory kinds.Directory = true
is_directory kinds.Other = false

-- Only a regular file that is small enough is opened. As in git, a folder counts as a file without lines.
abbrev pub node_search : Result Metadata Fault → Result Content Fault → Search
node_search (Ok node) opened =
    if is_file node.kind && nat_lt node.len file_limit then opened_search opened
    else (if is_directory node.kind then found [] else nothing)
node_search (Err f) opened = at_fault f

-- Nothing is checked whose path isn't normal, or leads through a link or a directory with a fault.
abbrev pub checked_search : LinkCheck → Search → Search
checked_search accepted at_path = at_path
checked_search empty_path at_path = nothing
checked_search (not_normal component) at_path = nothing
checked_search (through_link prefix) at_path = nothing
checked_search (faulty f) at_path = at_fault f

-- The file that is found at a path, by these results.
abbrev pub path_search : Stats → Result Content Fault → List ℕ → Search
path_search lstat opened path = checked_search (link_check lstat path) (node_search (lstat path) opened)

abbrev pub search_by : FolderView → Search
search_by view = path_search view.lstat view.opened (file_path view.folder)

-- ---- the files

abbrev pub is_top : List ℕ → Bool
is_top [] = true
is_top (b ∷ folder) = false

-- The file of the worktree's top may state macros.
abbrev pub file_of : List ℕ → Search → List File
file_of folder (found bytes) = record { folder = folder; has_macros = is_top folder; bytes = bytes } ∷ []
file_of folder nothing = []
file_of folder out_of_memory = []

-- The files that are found in folders by these views.
abbrev pub files_by : List FolderView → List File
files_by views = flat_map (λ view. file_of view.folder (search_by view)) views

-- Each result in a view is one that may be returned, and by these memory doesn't run out.
pub record IsAllowed (may_stat : MayStat) (may_open : List ℕ → MayOpen) (view : FolderView) : Type 0 where
  pub stats : AreAllowed may_stat view.lstat
  pub opened : may_open (file_path view.folder) view.opened
  pub in_memory : search_by view ≢ out_of_memory

-- There is an allowed view of each of these folders, and these are the files that are found by the views.
pub record AreFilesSeen (may_stat : MayStat) (may_open : List ℕ → MayOpen) (folders : List (List ℕ)) (files : List File) : Type 0 where
  pub views : List FolderView
  pub each : map (λ view. view.folder) views ≡ folders
  pub allowed : All (IsAllowed may_stat may_open) views
  pub found : files ≡ files_by views

-- These files count, if some count with others that are found within the worktree.
pub record AreFilesWith (within : List File → Type 0) (among : List File → List File → Type 0) (files : List File) : Type 0 where
  pub inner : List File
  pub found : within inner
  pub others : among inner files

-- ---- a modelled worktree

-- The view of a folder by known results.
abbrev pub known_view : Stats → (List ℕ → Result Content Fault) → List ℕ → FolderView
known_view lstat opened folder = record { folder = folder; lstat = lstat; opened = opened (file_path folder) }

-- If the results are known, except that memory may run out, the files are those by these results.
abbrev pub KnownFilesLaw : Stats → (List ℕ → Result Content Fault) → List (List ℕ) → List File → Type 0
KnownFilesLaw lstat opened folders files =
    AreFilesSeen (λ path answer. IsAnswer (lstat path) answer) (λ path. IsKnownOpening (opened path)) folders files
    → files ≡ files_by (map (known_view lstat opened) folders)
