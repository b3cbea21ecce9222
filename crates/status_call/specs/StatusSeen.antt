-- The status theorem over any worktree: a status reports the records of the definition, for a view of each entry.
use Rattle.std.specs.Prelude.{List, Result}
use Rattle.status_index.specs.declared.state.State.{State}
use Rattle.status_compare.specs.declared.error.Error.{Error}
use Rattle.status_call.specs.declared.index_as_worktree.types.Outcome.{Outcome}
use Rattle.status_call.specs.Query.{Query}
use Rattle.status_call.specs.StatusTheorem.{IsStatusReport, considered_entries}
use Rattle.status_call.specs.Views.{Allows, Views, AllAllowed, as_seen}
use Rattle.status_call.specs.Visits.{Visit}

-- There is an allowed view of each considered entry, and the status reports what it would report if the interfaces were modelled
-- and returned the results of these views.
pub record IsStatusSeen {T U : Type 0} (q : Query T U) (may : Allows U) (index : State) (old : List (Visit T U))
    (result : Result Outcome Error) (new : List (Visit T U)) : Type 0 where
  pub views : Views U
  pub allowed : AllAllowed may (considered_entries q index) views
  pub report : IsStatusReport (as_seen q views) index old result new
