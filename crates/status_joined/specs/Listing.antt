-- The list of both halves, and why there is none.
use Rattle.std.specs.Prelude.{Bool, List, map, Option, is_some, Result, Ok, Err}
use Rattle.std.specs.Global.{Vec}
use Rattle.status_index.specs.declared.state.State.{State}
use Rattle.status_call.specs.Query.{Query}
use Rattle.status_call.specs.Visits.{Visit}
use Rattle.status_call.specs.declared.index_as_worktree.types.Outcome.{Outcome}
use Rattle.status_walk.specs.WalkedNodes.{Walked}
use Rattle.status_walk.specs.declared.walk.Outcome.{Outcome as WalkOutcome}
use Rattle.status_joined.specs.declared.index_as_worktree_with_renames.error.Error.{Error}
use Rattle.status_joined.specs.declared.index_as_worktree_with_renames.types.Options.{Options}
use Rattle.status_joined.specs.declared.index_as_worktree_with_renames.types.Outcome.{Outcome as JoinedOutcome}
use Rattle.status_joined.specs.declared.item.ModificationOrDirwalkEntry.{ModificationOrDirwalkEntry}
use Rattle.status_joined.specs.BothHalves.{IsHalfFault, IsWalkedHalf}
use Rattle.status_joined.specs.Items.{Item}
use Rattle.status_joined.specs.ListItems.{item_of}
use Rattle.status_joined.specs.Lists.{IsList, unsorted}
use Rattle.status_joined.specs.TrackedHalf.{IsTrackedHalf}
use Rattle.status_joined.specs.Walkings.{Walking}

module _ {T U : Type 0} (query : Query T U) (options : Options) (index : State) (interruptible : Bool) (walking : Option Walking) where
  -- Both halves succeeded with these outcomes, and this is the list of their records and nodes.
  pub record HasList (list : List (Item T U)) (o : Outcome) (w : Option WalkOutcome) : Type 0 where
    pub visits : List (Visit T U)
    pub kept : List Walked
    pub tracked : IsTrackedHalf query index interruptible visits o
    pub walked : IsWalkedHalf interruptible walking kept w
    pub list_is : IsList (is_some options.sorting) (unsorted options.object_hash visits kept) list

  abbrev pub IsListing : Result (Vec (ModificationOrDirwalkEntry T U) × JoinedOutcome) Error → Type 0
  IsListing (Ok l) = HasList (map item_of l.0.items) l.1.tracked_file_modification l.1.dirwalk
  IsListing (Err e) = IsHalfFault query options index interruptible walking e
