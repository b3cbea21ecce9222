-- A path at which a node was met. Only then is its file opened, or its link read.
use Rattle.std.specs.Prelude.{◌≡◌, ℕ, Bool, true, false, List, Ok}
use Rattle.std.specs.Borrow.{Bor}
use Rattle.status_index.specs.declared.stat.Metadata.{Metadata}
use Rattle.status_index.specs.declared.stat.NodeKind.{NodeKind}
use Rattle.status_index.specs.declared.stat.NodeKind.TheVariants.{File, Link}
use Rattle.status_base.specs.declared.worktree.guarded.GuardedWorktree.{GuardedWorktree}
use Rattle.status_base.specs.Sights.{MayStat, IsOpen}

-- A node was met at a path: by results that `lstat` may return, no directory above the path is a link or has a fault, and the node
-- is one that `lstat` may return for the path. With listings only the directories were checked by `lstat`.
pub record IsMet (may : MayStat) (listed : Bool) (path : List ℕ) (node : Metadata) : Type 0 where
  pub above : IsOpen may path
  pub here : listed ≡ false → may path (Ok node)

-- A node, which is of this kind, was met at a path.
pub record IsMetAs (may : MayStat) (listed : Bool) (path : List ℕ) (node : Metadata) (kind : NodeKind) : Type 0 where
  pub met : IsMet may listed path node
  pub is : node.kind ≡ kind

-- `lstat` was called for a path and the directories above it, and this node, which is of this kind, was met there.
abbrev pub IsLookedAt : MayStat → Bool → List ℕ → Metadata → NodeKind → Type 0
IsLookedAt may listed path node kind = ∥ IsMetAs may listed path node kind ∥₁

-- The kind of a node that is read: a link, or a file.
abbrev pub kind_read : Bool → NodeKind
kind_read true = Link
kind_read false = File

-- A worktree with a guard, which knows whether listings may replace the call of `lstat` for the path itself.
abbrev pub guarded : {W : Type 0} → Bor W → Bool → GuardedWorktree W
guarded worktree listed = record { worktree = worktree; fscache = listed }
