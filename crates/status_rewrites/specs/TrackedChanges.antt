-- The changes that a tracker gets.
use Rattle.std.specs.Prelude.{ℕ, List}
use Rattle.status_index.specs.declared.id.ObjectId.{ObjectId}
use Rattle.status_index.specs.declared.mode.EntryKind.{EntryKind}
use Rattle.status_rewrites.specs.declared.tracker.ChangeKind.{ChangeKind}

-- A change that a tracker gets.
pub record Changed : Type 0 where
  pub id : ObjectId
  pub kind : ChangeKind
  pub mode : EntryKind
  pub path : List ℕ
