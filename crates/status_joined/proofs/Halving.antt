-- Each half, by the result of its thread.
use Rattle.std.proofs.Common.{◌≡◌, subst, ℕ, Bool, Option, Result, Some, Err}
use Rattle.std.specs.Global.{Vec}
use Rattle.status_index.specs.declared.state.State.{State}
use Rattle.status_compare.specs.declared.error.Error.{Error}
use Rattle.status_call.specs.Query.{Query}
use Rattle.status_call.specs.declared.index_as_worktree.recorder.Record.{Record}
use Rattle.status_call.specs.declared.index_as_worktree.types.Outcome.{Outcome}
use Rattle.status_walk.specs.declared.walk.Outcome.{Outcome as WalkOutcome}
use Rattle.status_walk.specs.declared.walk.WalkError.{WalkError}
use Rattle.status_joined.specs.declared.untracked.Kept.{Kept}
use Rattle.status_joined.specs.BothHalves.{IsWalkFailure}
use Rattle.status_joined.specs.TrackedHalf.{IsRecorded, IsTrackedFailure}
use Rattle.status_joined.specs.UntrackedHalf.{IsWalkOf}
use Rattle.status_joined.specs.Walkings.{Walking}

pub unwalked_at : (walking : Walking) (interruptible : Bool) {r : Result (Vec Kept × WalkOutcome) WalkError} {e : WalkError} → r ≡ Err e → IsWalkOf walking interruptible r → IsWalkFailure (Some walking) e
unwalked_at walking interruptible is walked = subst (λ x. IsWalkOf walking interruptible x) is walked

module _ {T U : Type 0} (query : Query T U) (limit : Option ℕ) (index : State) (interruptible : Bool) where
  pub failed_at : {r : Result (Vec (Record T U) × Outcome) Error} {e : Error} → r ≡ Err e → IsRecorded query limit index interruptible r → IsTrackedFailure query limit index e
  failed_at is recorded = subst (λ x. IsRecorded query limit index interruptible x) is recorded
