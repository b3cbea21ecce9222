-- The walk's part of both halves: its kept nodes, or its failure.
use Rattle.std.specs.Prelude.{◌≡◌, Bool, List, false, [], map, IfSome, Result, Ok, Err}
use Rattle.std.specs.Global.{Vec}
use Rattle.status_walk.specs.declared.walk.Outcome.{Outcome}
use Rattle.status_walk.specs.declared.walk.WalkError.{WalkError}
use Rattle.status_walk.specs.WalkedNodes.{Walked}
use Rattle.status_walk.specs.Walks.{WalkResult, IsWalked, IsWalkFault}
use Rattle.status_joined.specs.declared.untracked.Kept.{Kept}
use Rattle.status_joined.specs.Keeping.{is_kept, kept_walked}
use Rattle.status_joined.specs.Walkings.{Walking}

-- The status's records and the walk's kept nodes, or the walk's failure, or otherwise the status's. These are the kept nodes: of
-- a walk to its end all its nodes that can be tracked and aren't, and of one that the flag ended, the first of these. A walk
-- without a flag isn't ended early.
pub record AreKeptNodes (m : WalkResult) (interruptible : Bool) (kept : List Walked) (o : Outcome) : Type 0 where
  pub walked : IsWalked m is_kept [] kept o.cancelled o
  pub uncut : interruptible ≡ false → o.cancelled ≡ false

-- The walk ended so, or failed with the specified fault, or memory ran out.
abbrev pub IsModelledWalk : WalkResult → Bool → Result (Vec Kept × Outcome) WalkError → Type 0
IsModelledWalk m interruptible (Ok w) = AreKeptNodes m interruptible (map kept_walked w.0.items) w.1
IsModelledWalk m interruptible (Err e) = IsWalkFault m.fault e

-- The same if the walk is modelled.
abbrev pub IsWalkOf : Walking → Bool → Result (Vec Kept × Outcome) WalkError → Type 0
IsWalkOf w interruptible result = IfSome w (λ m. IsModelledWalk m interruptible result)
