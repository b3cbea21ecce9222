-- Whether a path leads through a symbolic link.
use Rattle.std.specs.Prelude.{ℕ, List, [], ◌∷◌, Option, Some, None, Result, Ok, Err}
use Rattle.status_index.specs.declared.fault.Fault.{Fault}
use Rattle.status_index.specs.declared.stat.Metadata.{Metadata}
use Rattle.status_index.specs.declared.stat.NodeKind.{NodeKind}
use Rattle.status_index.specs.declared.stat.NodeKind.TheVariants.{File, Link, Directory, Other}
use Rattle.status_base.specs.Paths.{abnormal_component, directories}

-- The result of a link check of a path.
pub data LinkCheck : Type 0 where
  accepted : LinkCheck
  empty_path : LinkCheck
  not_normal : List ℕ → LinkCheck
  through_link : List ℕ → LinkCheck
  faulty : Fault → LinkCheck

-- Why no path may lead through a directory: it is a link, or has a fault.
pub data Barrier : Type 0 where
  link : Barrier
  fault : Fault → Barrier

abbrev pub barrier_of_kind : NodeKind → Option Barrier
barrier_of_kind Link = Some link
barrier_of_kind File = None
barrier_of_kind Directory = None
barrier_of_kind Other = None

abbrev pub barrier_of : Result Metadata Fault → Option Barrier
barrier_of (Ok node) = barrier_of_kind node.kind
barrier_of (Err f) = Some (fault f)

abbrev pub verdict_of : List ℕ → Barrier → LinkCheck
verdict_of directory link = through_link directory
verdict_of directory (fault f) = faulty f

abbrev pub decided : List ℕ → Option Barrier → LinkCheck → LinkCheck
decided directory (Some barrier) others = verdict_of directory barrier
decided directory None others = others

-- The first of these directories that is a link or has a fault decides. If there is none, the path is accepted.
abbrev pub leftmost_barrier : (List ℕ → Result Metadata Fault) → List (List ℕ) → LinkCheck
leftmost_barrier lstat [] = accepted
leftmost_barrier lstat (directory ∷ others) = decided directory (barrier_of (lstat directory)) (leftmost_barrier lstat others)

abbrev pub check_of_normal : (List ℕ → Result Metadata Fault) → List ℕ → Option (List ℕ) → LinkCheck
check_of_normal lstat path (Some component) = not_normal component
check_of_normal lstat path None = leftmost_barrier lstat (directories path)

-- A path is refused if empty, for its first abnormal component, or its shortest directory that is a link or fails. Otherwise it
-- is accepted. This is the result of a new check; the directories are the proper directory prefixes.
abbrev pub link_check : (List ℕ → Result Metadata Fault) → List ℕ → LinkCheck
link_check lstat [] = empty_path
link_check lstat (b ∷ path) = check_of_normal lstat (b ∷ path) (abnormal_component (b ∷ path))
