-- The list's nodes with their ids.
use Rattle.std.specs.Prelude.{◌≡◌, ◌⊎◌, ℕ, Bool, IsTrue, List, map, Some, Result, Ok, Err, slice_get}
use Rattle.std.specs.List.{filter_map}
use Rattle.std.specs.Result.{result_err}
use Rattle.status_index.specs.BlobId.{null_id}
use Rattle.status_index.specs.Content.{Content}
use Rattle.status_index.specs.declared.fault.Fault.{Fault}
use Rattle.status_index.specs.declared.fault.Fault.TheVariants.{Memory}
use Rattle.status_index.specs.declared.id.HashKind.{HashKind}
use Rattle.status_index.specs.declared.id.ObjectId.{ObjectId}
use Rattle.status_index.specs.declared.stat.Metadata.{Metadata}
use Rattle.status_base.specs.Conversions.{Conversion}
use Rattle.status_walk.specs.WalkedNodes.{Walked}
use Rattle.status_walk.specs.WorktreeIds.{worktree_id, fault_of}
use Rattle.status_walk.specs.declared.id.IdError.{IdError}
use Rattle.status_joined.specs.Items.{Item, tracked, walked}

-- The id of a node's content, by the worktree's results and the filter's.
abbrev pub ids_by : HashKind → (List ℕ → Result Metadata Fault) → (List ℕ → Result Content Fault) → (List ℕ → Result (List ℕ) Fault) → (Content → List ℕ → Conversion) → Walked → Result ObjectId IdError
ids_by kind lstat opened target conversion w = worktree_id kind lstat opened target conversion w.path w.disk_kind

-- The ids of nodes, and whether their worktree is modelled.
pub record Identifying : Type 0 where
  pub modelled : Bool
  pub ids : Walked → Result ObjectId IdError

-- The ids of nodes in a worktree and through a filter, by the specifications of both.
abbrev pub identifying : {W F : Type 0} → (W → Bool) → (W → List ℕ → Result Metadata Fault) → (W → List ℕ → Result Content Fault) → (W → List ℕ → Result (List ℕ) Fault) → (F → Content → List ℕ → Conversion) → HashKind → W → F → Identifying
identifying modelled lstat opened target conversion kind worktree filter = record {
  modelled = modelled worktree;
  ids = ids_by kind (lstat worktree) (opened worktree) (target worktree) (conversion filter);
}

-- A node with its id, or why it has none.
abbrev pub with_id : {T U : Type 0} → Walked → Result ObjectId IdError → Result (Item T U) IdError
with_id w (Ok id) = Ok (walked w id)
with_id w (Err e) = Err e

module _ {T U : Type 0} (ids : Walked → Result ObjectId IdError) where
  -- A record unchanged; a node with its id, or why it has none.
  abbrev pub identified : Item T U → Result (Item T U) IdError
  identified (tracked v) = Ok (tracked v)
  identified (walked w id) = with_id w (ids w)

  -- Why nodes have no ids, in the list's order.
  abbrev pub id_faults : List (Item T U) → List IdError
  id_faults xs = filter_map (λ x. result_err (identified x)) xs

  -- An item with its id, or its fault; or memory ran out.
  abbrev pub HasId : {A : Type 0} → Item T U → Result A IdError → Item T U → Type 0
  HasId x (Ok _) y = identified x ≡ Ok y
  HasId x (Err e) y = (identified x ≡ Err e) ⊎ (fault_of e ≡ Memory)

  -- All items with their ids, or the first fault of theirs; or memory ran out.
  abbrev pub HaveIds : {A : Type 0} → List (Item T U) → Result A IdError → List (Item T U) → Type 0
  HaveIds xs (Ok _) ys = map identified xs ≡ map Ok ys
  HaveIds xs (Err e) ys = (slice_get (id_faults xs) 0 ≡ Some e) ⊎ (fault_of e ≡ Memory)

-- `HasId` if the worktree is modelled.
abbrev pub HasIdBy : {T U A : Type 0} → Identifying → Item T U → Result A IdError → Item T U → Type 0
HasIdBy by x result y = IsTrue by.modelled → HasId by.ids x result y

-- Each node gets its content's id and no other change, or the first fault is returned. This holds if the worktree is modelled.
abbrev pub HaveIdsBy : {T U A : Type 0} → Identifying → List (Item T U) → Result A IdError → List (Item T U) → Type 0
HaveIdsBy by xs result ys = IsTrue by.modelled → HaveIds by.ids xs result ys

-- An item without its id. Items that agree so have no other change.
abbrev pub forget : {T U : Type 0} → HashKind → Item T U → Item T U
forget kind (tracked v) = tracked v
forget kind (walked w id) = walked w (null_id kind)
