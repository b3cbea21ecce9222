-- The status theorem; with limit 1 only a comparer may report a refused thread. Here it is of a call, by the interfaces passed,
-- the options and the index.
use Rattle.std.specs.Prelude.{◌≡◌, ◌≢◌, ℕ, IsTrue, List, ◌++◌, map, Option, Some, Result, Err, IfErr}
use Rattle.status_index.specs.declared.state.State.{State}
use Rattle.status_compare.specs.declared.error.Error.{Error}
use Rattle.status_compare.specs.declared.error.Error.TheVariants.{Memory, SpawnThread}
use Rattle.status_call.specs.declared.index_as_worktree.inputs.Settings.{Settings}
use Rattle.status_call.specs.declared.index_as_worktree.types.Options.{Options}
use Rattle.status_call.specs.declared.index_as_worktree.types.Outcome.{Outcome}
use Rattle.status_call.specs.EntrySights.{IsViewAllowed}
use Rattle.status_call.specs.Inputs.{settings}
use Rattle.status_call.specs.MayReturn.{MayReturn}
use Rattle.status_call.specs.Query.{Query}
use Rattle.status_call.specs.StatusSeen.{IsStatusSeen}
use Rattle.status_call.specs.StatusTheorem.{IsFirstFault, IsStatusReport, NeverSpawns}
use Rattle.status_call.specs.Visits.{Visit, finding_of}

-- No thread is refused, if the comparer never returns that.
abbrev pub IsThreadless : {T U : Type 0} → Query T U → Result Outcome Error → Type 0
IsThreadless q result = IsTrue q.modelled → NeverSpawns q → result ≢ Err SpawnThread

-- Any error but out of memory is the first fault, with exactly the records before it.
abbrev pub IsFaultOrMemory : {T U : Type 0} → Query T U → State → List (Visit T U)
    → Result Outcome Error → List (Visit T U) → Type 0
IsFaultOrMemory {T} {U} q index old result new =
    IsTrue q.modelled → IfErr result (λ e. e ≢ Memory
    → (more : List (Visit T U)) × (new ≡ old ++ more) × IsFirstFault q index (map finding_of more) e)

-- With limit 1 no thread is refused, if the comparer never returns that.
abbrev pub OneThreadSpawnsNone : {T U : Type 0} → Query T U → Option ℕ → Result Outcome Error → Type 0
OneThreadSpawnsNone q limit result = IsTrue q.modelled → limit ≡ Some 1 → NeverSpawns q → result ≢ Err SpawnThread

module _ {I T U : Type 0} (query : I → Settings → Query T U) (inputs : I) (options : Options)
    (index : State) where
  abbrev query_of : Query T U
  query_of = query inputs (settings options index)

  -- The collector's records before and after the call, and the call's result.
  abbrev pub IsStatus : {V : Type 0} → (V → List (Visit T U)) → V → Result Outcome Error → V
      → Type 0
  IsStatus visits old result new = IsStatusReport query_of index (visits old) result (visits new)

  -- The same over any worktree, by the results that the interfaces may return.
  abbrev pub IsStatusByAnswers : {V : Type 0} → MayReturn U → (V → List (Visit T U)) → V → Result Outcome Error → V → Type 0
  IsStatusByAnswers may visits old result new =
      IsStatusSeen query_of (IsViewAllowed may options.fscache) index (visits old) result (visits new)

  -- With limit 1 no thread is refused, by the interfaces passed and the options.
  abbrev pub OneThreadCallSpawnsNone : Result Outcome Error → Type 0
  OneThreadCallSpawnsNone result = OneThreadSpawnsNone query_of options.thread_limit result

  -- No thread is refused, and any error but out of memory is the first fault, with exactly the records before it, by the
  -- interfaces passed and the options.
  abbrev pub IsWithoutThread : {V : Type 0} → (V → List (Visit T U)) → V → Result Outcome Error → V
      → Type 0
  IsWithoutThread visits old result new =
      IsThreadless query_of result × IsFaultOrMemory query_of index (visits old) result (visits new)
