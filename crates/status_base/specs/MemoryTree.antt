-- A worktree in memory: its nodes, its planted faults, and its results.
use Rattle.std.specs.Prelude.{ℕ, Bool, true, false, List, [], ◌∷◌, take, Option, Some, None, Result, Ok, Err, if◌then◌else◌}
use Rattle.std.specs.List.{list_any}
use Rattle.std.specs.Ordering.{nat_cmp}
use Rattle.std.specs.Cmp.Lexicographic.{slice_cmp}
use Rattle.std.specs.FinMap as map
use Rattle.status_index.specs.Content.{Content}
use Rattle.status_index.specs.declared.fault.Fault.{Fault}
use Rattle.status_index.specs.declared.fault.Fault.TheVariants as faults
use Rattle.status_index.specs.declared.stat.Metadata.{Metadata}
use Rattle.status_index.specs.declared.stat.NodeKind.{NodeKind}
use Rattle.status_index.specs.declared.stat.NodeKind.TheVariants as kinds
use Rattle.status_base.specs.Paths.{directories, lies_above}

-- A node's metadata, and its bytes: a file's content or a link's target.
pub record Placed : Type 0 where
  pub metadata : Metadata
  pub bytes : List ℕ

-- The faults that are planted at a path. A fault of reading is after a number of bytes.
pub record Planted : Type 0 where
  pub lstat : Option Fault
  pub opening : Option Fault
  pub read_link : Option Fault
  pub reads : map.FinMap nat_cmp Fault

abbrev pub PathMap : Type 0 → Type 0
PathMap A = map.FinMap (slice_cmp nat_cmp) A

-- A worktree in memory has nodes by path, and faults planted at calls of a path, which come first.
pub record Tree : Type 0 where
  pub nodes : PathMap Placed
  pub planted : PathMap Planted

abbrev pub no_faults : Planted
no_faults = record { lstat = None; opening = None; read_link = None; reads = map.empty }

abbrev pub planted_or_none : Option Planted → Planted
planted_or_none (Some p) = p
planted_or_none None = no_faults

abbrev pub planted_at : Tree → List ℕ → Planted
planted_at tree path = planted_or_none (map.get tree.planted path)

-- Whether a node is below a path.
abbrev pub has_below : Tree → List ℕ → Bool
has_below tree path = list_any (lies_above path) (map.keys tree.nodes)

abbrev pub is_no_directory_kind : NodeKind → Bool
is_no_directory_kind kinds.Directory = false
is_no_directory_kind kinds.File = true
is_no_directory_kind kinds.Link = true
is_no_directory_kind kinds.Other = true

abbrev pub is_no_directory : Option Placed → Bool
is_no_directory (Some p) = is_no_directory_kind p.metadata.kind
is_no_directory None = false

-- Whether a proper directory prefix of a path has a node that isn't a directory.
abbrev pub has_file_above : Tree → List ℕ → Bool
has_file_above tree path = list_any (λ d. is_no_directory (map.get tree.nodes d)) (directories path)

-- The metadata of a directory that wasn't put.
abbrev pub bare_directory : Metadata
bare_directory = record {
  kind = kinds.Directory;
  len = 0;
  executable = false;
  mtime = Some (record { secs = 0; nsecs = 0 });
  ctime = Some (record { secs = 0; nsecs = 0 });
  dev = 0;
  ino = 0;
  uid = 0;
  gid = 0;
}

-- The fault of a path with no node at it or below it.
abbrev pub absence : Tree → List ℕ → Fault
absence tree path = if has_file_above tree path then faults.NotADirectory else faults.NotFound

-- A planted fault comes before any other result.
abbrev pub or_planted : {A : Type 0} → Option Fault → Result A Fault → Result A Fault
or_planted (Some f) answer = Err f
or_planted None answer = answer

abbrev pub lstat_of_node : Tree → List ℕ → Option Placed → Result Metadata Fault
lstat_of_node tree path (Some p) = Ok p.metadata
lstat_of_node tree path None = if has_below tree path then Ok bare_directory else Err (absence tree path)

-- The result of `lstat`. `lstat` finds a node, a directory above nodes, `NotADirectory` below another node, or `NotFound`. A
-- planted fault comes first.
abbrev pub lstat_in : Tree → List ℕ → Result Metadata Fault
lstat_in tree path = or_planted (planted_at tree path).lstat (lstat_of_node tree path (map.get tree.nodes path))

-- Bytes up to the first of some faults, each after a number of bytes, or up to the end. In a shorter file the fault replaces the
-- end.
abbrev pub content_of : List ℕ → List (ℕ × Fault) → Content
content_of bytes [] = record { bytes = bytes; fault = None }
content_of bytes (p ∷ ps) = record { bytes = take p.0 bytes; fault = Some p.1 }

-- A file's bytes up to the planted fault that is after the fewest of them, or up to the end.
abbrev pub planted_content : List ℕ → Planted → Content
planted_content bytes planted = content_of bytes (map.entries planted.reads)

abbrev pub fault_or : Option Fault → Fault → Fault
fault_or (Some f) other = f
fault_or None other = other

-- The fault of opening a path, or of reading it as a link, if no node was put there: `Other(0)` of a directory, otherwise the
-- fault of `lstat`.
abbrev pub fault_without_node : Tree → List ℕ → Fault
fault_without_node tree path = if has_below tree path then faults.Other 0 else fault_or (planted_at tree path).lstat (absence tree path)

abbrev pub open_of_kind : Content → NodeKind → Result Content Fault
open_of_kind content kinds.File = Ok content
open_of_kind content kinds.Link = Err (faults.Other 0)
open_of_kind content kinds.Directory = Err (faults.Other 0)
open_of_kind content kinds.Other = Err (faults.Other 0)

abbrev pub open_of_node : Tree → List ℕ → Option Placed → Result Content Fault
open_of_node tree path (Some p) = open_of_kind (planted_content p.bytes (planted_at tree path)) p.metadata.kind
open_of_node tree path None = Err (fault_without_node tree path)

-- A file opens to its bytes before the first planted read, a link to its target; other nodes fail with `Other(0)`. This is the
-- result of opening a file. A fault planted at opening comes first. If nothing is there, the fault is that of `lstat`.
abbrev pub open_in : Tree → List ℕ → Result Content Fault
open_in tree path = or_planted (planted_at tree path).opening (open_of_node tree path (map.get tree.nodes path))

abbrev pub target_of_kind : List ℕ → NodeKind → Result (List ℕ) Fault
target_of_kind target kinds.Link = Ok target
target_of_kind target kinds.File = Err (faults.Other 0)
target_of_kind target kinds.Directory = Err (faults.Other 0)
target_of_kind target kinds.Other = Err (faults.Other 0)

abbrev pub target_of_node : Tree → List ℕ → Option Placed → Result (List ℕ) Fault
target_of_node tree path (Some p) = target_of_kind p.bytes p.metadata.kind
target_of_node tree path None = Err (fault_without_node tree path)

-- The result of reading a link. A fault planted at reading a link comes first. A node that isn't a link fails with `Other(0)`.
-- If nothing is there, the fault is that of `lstat`.
abbrev pub target_in : Tree → List ℕ → Result (List ℕ) Fault
target_in tree path = or_planted (planted_at tree path).read_link (target_of_node tree path (map.get tree.nodes path))
