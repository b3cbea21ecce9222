-- The considered entries of a call, as its workers process them.
use Rattle.std.specs.Prelude.{ℕ, List, is_some, Result}
use Rattle.status_compare.specs.declared.error.Error.{Error}
use Rattle.status_call.specs.declared.index_as_worktree.counts.Progress.{Progress}
use Rattle.status_call.specs.declared.index_as_worktree.considered.Considered.{Considered}
use Rattle.status_call.specs.declared.index_as_worktree.workers.Workers.{Workers}
use Rattle.status_call.specs.Considered.{part_entries}
use Rattle.status_call.specs.Query.{Query}
use Rattle.status_call.specs.Views.{Allows}
use Rattle.status_call.specs.Visits.{Visit, IsFaithful}
use Rattle.status_call.specs.WorkInOrder.{IsReportedWork}

-- The collector gets the index's own entry.
abbrev pub IsFaithfulTo : {T U : Type 0} → Considered → Visit T U → Type 0
IsFaithfulTo c = IsFaithful c.entries.now c.backing.now

-- The records of the considered entries from position `from` on that were reported, and how the work ended.
abbrev pub IsRoundsReport : {T U R : Type 0} → Query T U → Allows U → Considered → Workers R → ℕ → ℕ → List (Visit T U)
    → Result Progress Error → List (Visit T U) → Type 0
IsRoundsReport q may c w from to old result new =
    IsReportedWork q may c.start (part_entries c) from (IsFaithfulTo c) (is_some w.interrupt) w.count to
    old result new
