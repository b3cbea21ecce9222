-- The nodes that a walk passes to its delegate.
use Rattle.std.specs.Prelude.{ℕ, Bool, true, false, List, ◌++◌, filter, Option, Some, None}
use Rattle.std.specs.Option.{option_to_list}
use Rattle.bstr.specs.Owned.{bstring_bytes}
use Rattle.status_walk.specs.declared.walk.Action.{Action}
use Rattle.status_walk.specs.declared.walk.Action.TheVariants.{Continue, Cancel}
use Rattle.status_walk.specs.declared.walk.DirEntry.{DirEntry}
use Rattle.status_walk.specs.declared.walk.Kind.{Kind}
use Rattle.status_walk.specs.declared.walk.Status.{Status}

-- A node that was found, and the status of the collapsed directory that represents it, if there is one.
pub record Walked : Type 0 where
  pub path : List ℕ
  pub status : Status
  pub disk_kind : Option Kind
  pub collapsed : Option Status

abbrev pub walked_of : DirEntry → Option Status → Walked
walked_of e collapsed = record { path = bstring_bytes e.rela_path; status = e.status; disk_kind = e.disk_kind; collapsed = collapsed }

-- A walk passes its nodes, up to its fault, to a delegate, which may keep them and end it. The state of a delegate is which nodes
-- it wants to keep, which it has kept, in order, and whether it has ended the walk.
pub record DelegateState : Type 0 where
  pub keeps : Walked → Bool
  pub kept : List Walked
  pub cancelled : Bool

-- The nodes that a delegate has kept after at most one more node is passed to it.
abbrev pub kept_more : DelegateState → Option Walked → List Walked
kept_more d passed = d.kept ++ filter d.keeps (option_to_list passed)

abbrev pub is_cancel : Action → Bool
is_cancel Continue = false
is_cancel Cancel = true

-- If no node is passed, the delegate doesn't end the walk.
abbrev pub is_cancelling : Option Action → Bool
is_cancelling None = false
is_cancelling (Some action) = is_cancel action
