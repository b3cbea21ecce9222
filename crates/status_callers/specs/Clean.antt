-- A call that returns whether a status finds nothing.
use Rattle.std.specs.Prelude.{◌≡◌, ◌≢◌, ◌↔◌, Bool, true, IsTrue, All, None, Some, Result, Ok, IfOk, IfErr}
use Rattle.status_index.specs.declared.state.State.{State}
use Rattle.status_compare.specs.declared.error.Error.{Error}
use Rattle.status_compare.specs.declared.error.Error.TheVariants.{Memory, SpawnThread}
use Rattle.status_call.specs.declared.index_as_worktree.inputs.Settings.{Settings}
use Rattle.status_call.specs.declared.index_as_worktree.types.Options.{Options}
use Rattle.status_call.specs.Inputs.{settings}
use Rattle.status_call.specs.Query.{Query}
use Rattle.status_call.specs.Records.{first_fault, verdict}
use Rattle.status_call.specs.StatusTheorem.{considered_entries}

-- no considered entry has a status or a fault
abbrev pub IsClean : {T U : Type 0} → Query T U → State → Type 0
IsClean q index = All (λ e. verdict q (considered_entries q index) e ≡ Ok None) (considered_entries q index)

-- true exactly if that holds, with modelled interfaces
abbrev pub SaysClean : {I T U : Type 0} → (I → Settings → Query T U) → I → Options → State
    → Result Bool Error → Type 0
SaysClean query inputs options index result =
    IsTrue (query inputs (settings options index)).modelled
    → IfOk result (λ clean. (clean ≡ true) ↔ IsClean (query inputs (settings options index)) index)

-- an error other than out of memory or a refused thread is the first fault, with modelled interfaces
abbrev pub FailsAtFirstFault : {I T U : Type 0} → (I → Settings → Query T U) → I → Options → State
    → Result Bool Error → Type 0
FailsAtFirstFault query inputs options index result =
    IsTrue (query inputs (settings options index)).modelled
    → IfErr result (λ e. e ≢ Memory → e ≢ SpawnThread
    → first_fault (query inputs (settings options index)) (considered_entries (query inputs (settings options index)) index) ≡ Some e)
