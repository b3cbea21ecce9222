-- The untracked nodes of a worktree in memory.
use Rattle.std.specs.Prelude.{ℕ, Bool, false, not, ◌&&◌, List, filter, Option, Some, None, option_map, if◌then◌else◌}
use Rattle.std.specs.List.{list_any, filter_map}
use Rattle.std.specs.FinMap as paths
use Rattle.status_index.specs.Entries.{IndexEntry}
use Rattle.status_index.specs.Mode.{is_submodule}
use Rattle.status_index.specs.Stretch.{is_at}
use Rattle.status_index.specs.declared.stat.NodeKind.{NodeKind}
use Rattle.status_index.specs.declared.stat.NodeKind.TheVariants as nodes
use Rattle.status_base.specs.MemoryTree.{Tree}
use Rattle.status_base.specs.Paths.{directories}
use Rattle.status_walk.specs.declared.walk.Kind.{Kind}
use Rattle.status_walk.specs.declared.walk.Kind.TheVariants as kinds
use Rattle.status_walk.specs.declared.walk.Status.TheVariants as statuses
use Rattle.status_walk.specs.WalkedNodes.{Walked}
use Rattle.status_walk.specs.Walks.{WalkResult}

-- Whether an entry has a path.
abbrev pub is_tracked : List IndexEntry → List ℕ → Bool
is_tracked es path = list_any (is_at path) es

-- Whether an entry of a path is a submodule's.
abbrev pub is_submodule_at : List IndexEntry → List ℕ → Bool
is_submodule_at es path = list_any (λ e. is_submodule e.mode) (filter (is_at path) es)

-- Whether a submodule's entry is at a directory above a path.
abbrev pub is_below_submodule : List IndexEntry → List ℕ → Bool
is_below_submodule es path = list_any (is_submodule_at es) (directories path)

-- Whether a path is included, no entry has it, and it is in no submodule.
abbrev pub is_untracked : List IndexEntry → (List ℕ → Bool → Bool) → List ℕ → Bool
is_untracked es included path = included path false && not (is_tracked es path) && not (is_below_submodule es path)

-- The type of a node in a walk's entry. A directory isn't passed itself.
abbrev pub emitted_kind : NodeKind → Option Kind
emitted_kind nodes.File = Some kinds.File
emitted_kind nodes.Link = Some kinds.Symlink
emitted_kind nodes.Other = Some kinds.Untrackable
emitted_kind nodes.Directory = None

abbrev pub untracked : List ℕ → Kind → Walked
untracked path kind = record { path = path; status = statuses.Untracked; disk_kind = Some kind; collapsed = None }

-- The node that the walk passes for a path, if any.
abbrev pub untracked_at : List IndexEntry → (List ℕ → Bool → Bool) → List ℕ → NodeKind → Option Walked
untracked_at es included path kind = if is_untracked es included path then option_map (untracked path) (emitted_kind kind) else None

-- All nodes but directories, by path bytes, that the pathspec includes, no entry has, and no submodule's entry is above.
abbrev pub untracked_walk : Tree → List IndexEntry → (List ℕ → Bool → Bool) → WalkResult
untracked_walk tree es included = record {
  entries = filter_map (λ p. untracked_at es included p.0 p.1.metadata.kind) (paths.entries tree.nodes);
  fault = None;
}
