-- The nodes that are kept of a walk.
use Rattle.std.specs.Prelude.{Bool, true, false, not, ◌&&◌, List, map, Option, Some}
use Rattle.status_walk.specs.declared.walk.Kind.{Kind}
use Rattle.status_walk.specs.declared.walk.Kind.TheVariants.{Untrackable}
use Rattle.status_walk.specs.declared.walk.Status.{Status}
use Rattle.status_walk.specs.declared.walk.Status.TheVariants.{Tracked}
use Rattle.status_walk.specs.WalkedNodes.{DelegateState, Walked, walked_of}
use Rattle.status_joined.specs.declared.untracked.Kept.{Kept}

abbrev pub is_untrackable : Option Kind → Bool
is_untrackable (Some Untrackable) = true
is_untrackable _ = false

abbrev pub is_tracked : Status → Bool
is_tracked Tracked = true
is_tracked _ = false

-- A walk's node is kept unless it is known to be untrackable or reported as tracked.
abbrev pub is_kept : Walked → Bool
is_kept w = not (is_untrackable w.disk_kind) && not (is_tracked w.status)

-- The kept node, as a walk passes it.
abbrev pub kept_walked : Kept → Walked
kept_walked k = walked_of k.entry k.collapsed_directory_status

-- The state of a delegate that keeps such nodes.
abbrev pub keeper_state : List Kept → Bool → DelegateState
keeper_state kept cancelled = record { keeps = is_kept; kept = map kept_walked kept; cancelled = cancelled }
