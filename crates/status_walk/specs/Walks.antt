-- The specification of a walk, and its results.
use Rattle.std.specs.Prelude.{◌≡◌, ℕ, ◌<◌, ◌≤◌, Bool, true, false, List, ◌++◌, length, take, filter, Option, Some, None, Result, Ok, Err, ⊤}
use Rattle.bstr.specs.Owned.{bstring_bytes}
use Rattle.status_index.specs.declared.fault.Fault.{Fault as WorktreeFault}
use Rattle.status_walk.specs.declared.walk.Outcome.{Outcome}
use Rattle.status_walk.specs.declared.walk.WalkError.{WalkError}
use Rattle.status_walk.specs.declared.walk.WalkError.TheVariants.{Fault, Memory}
use Rattle.status_walk.specs.WalkedNodes.{DelegateState, Walked}

-- A fault, and the path at which it is met.
pub record WalkFault : Type 0 where
  pub path : List ℕ
  pub fault : WorktreeFault

-- The nodes to find, in order, and the fault after them, if one ends the walk.
pub record WalkResult : Type 0 where
  pub entries : List Walked
  pub fault : Option WalkFault

-- A walk to its end passes all nodes, and meets no fault. One that the delegate ends passes the first of them, up to the node at
-- which the delegate ended it.
pub record IsWalked (m : WalkResult) (keeps : Walked → Bool) (old new : List Walked) (cancelled : Bool) (o : Outcome) : Type 0 where
  pub ended : o.cancelled ≡ cancelled
  pub inside : o.emitted ≤ length m.entries
  pub begun : o.cancelled ≡ true → 0 < o.emitted
  pub kept : new ≡ old ++ filter keeps (take o.emitted m.entries)
  pub whole : o.cancelled ≡ false → (o.emitted ≡ length m.entries) × (m.fault ≡ None)

-- A walk fails with the specified fault, at its path; or memory ran out.
abbrev pub IsWalkFault : Option WalkFault → WalkError → Type 0
IsWalkFault specified (Fault path fault) = specified ≡ Some (record { path = bstring_bytes path; fault = fault })
IsWalkFault specified Memory = ⊤

-- A walk passes its nodes, up to its fault, to a delegate, which may keep them and end it. So it ends or fails by its
-- specification and its delegate's.
abbrev pub IsWalk : WalkResult → DelegateState → Result Outcome WalkError → DelegateState → Type 0
IsWalk m old (Ok o) new = IsWalked m old.keeps old.kept new.kept new.cancelled o
IsWalk m old (Err e) new = IsWalkFault m.fault e
