-- The items of a status's list, and the reports that its collector gets.
use Rattle.std.specs.Prelude.{◌≡◌, ℕ, Bool, true, false, List}
use Rattle.status_index.specs.declared.id.ObjectId.{ObjectId}
use Rattle.status_call.specs.declared.index_as_worktree.types.Change.TheVariants as changes
use Rattle.status_call.specs.declared.index_as_worktree.types.EntryStatus.{EntryStatus}
use Rattle.status_call.specs.declared.index_as_worktree.types.EntryStatus.TheVariants as statuses
use Rattle.status_call.specs.Visits.{Visit}
use Rattle.status_rewrites.specs.declared.rewrites.Rewritten.{Rewritten}
use Rattle.status_rewrites.specs.declared.rewrites.Rewritten.TheVariants.{Alone, Rewrite}
use Rattle.status_walk.specs.WalkedNodes.{Walked}

-- An item of the list: a record of the status, or a node that was kept of the walk, with its id.
pub data Item (T U : Type 0) : Type 0 where
  tracked : Visit T U → Item T U
  walked : Walked → ObjectId → Item T U

-- A record, a node, or a rewrite with source, destination, its id, and whether it is a copy. The id is the destination's. This is
-- a report that a collector gets.
pub data Reported (T U : Type 0) : Type 0 where
  modification : Visit T U → Reported T U
  contents : Walked → Reported T U
  rewrite : Item T U → Walked → ObjectId → Bool → Reported T U

-- Whether the entry's status is `Removed`.
abbrev pub is_removal : {T U : Type 0} → EntryStatus T U → Bool
is_removal (statuses.Change changes.Removed) = true
is_removal _ = false

-- The source of a rename is a record of a removed path, and its destination a node. So this is whether an item may be a source.
abbrev pub is_removed : {T U : Type 0} → Item T U → Bool
is_removed (tracked v) = is_removal v.status
is_removed (walked w id) = false

-- Whether an item may be a destination.
abbrev pub is_walked : {T U : Type 0} → Item T U → Bool
is_walked (tracked v) = false
is_walked (walked w id) = true

abbrev pub path_of : {T U : Type 0} → Item T U → List ℕ
path_of (tracked v) = v.path
path_of (walked w id) = w.path

-- 0 for a record, 1 for a node: records come before nodes.
abbrev pub side_of : {T U : Type 0} → Item T U → ℕ
side_of (tracked v) = 0
side_of (walked w id) = 1

-- The report of an entry of the list. A rewrite's destination is a node.
abbrev pub IsReported : {T U : Type 0} → Rewritten (Item T U) → Reported T U → Type 0
IsReported (Alone (tracked v)) t = t ≡ modification v
IsReported (Alone (walked w id)) t = t ≡ contents w
IsReported (Rewrite source (walked w id) copy) t = t ≡ rewrite source w id copy
IsReported (Rewrite source (tracked v) copy) t = ⊥
