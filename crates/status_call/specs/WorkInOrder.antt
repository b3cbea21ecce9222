-- Considered entries from a position on, processed in order.
use Rattle.std.specs.Prelude.{◌≡◌, ◌⊎◌, ℕ, ◌<◌, Bool, false, List, length, Result, Ok, Err}
use Rattle.status_index.specs.Entries.{IndexEntry}
use Rattle.status_compare.specs.declared.error.Error.{Error}
use Rattle.status_compare.specs.declared.error.Error.TheVariants.{Memory, SpawnThread}
use Rattle.status_board.specs.declared.round.Refused.{Refused}
use Rattle.status_board.specs.declared.round.Refused.TheVariants as refusals
use Rattle.status_call.specs.declared.index_as_worktree.counts.Progress.{Progress}
use Rattle.status_call.specs.declared.index_as_worktree.counts.Totals.{Totals}
use Rattle.status_call.specs.declared.index_as_worktree.types.Finding.{Finding}
use Rattle.status_call.specs.Reporting.{Reports}
use Rattle.status_call.specs.Pieces.{IsDone, IsFaulty}
use Rattle.status_call.specs.Query.{Query}
use Rattle.status_call.specs.StatusTheorem.{IsBeginning}
use Rattle.status_call.specs.Views.{Allows}
use Rattle.status_call.specs.Visits.{Visit}

-- The error of a round that couldn't be processed.
abbrev pub shortage_of : Refused → Error
shortage_of refusals.Thread = SpawnThread
shortage_of refusals.Memory = Memory

-- Memory was refused, or, if there may be more than one worker, a thread.
abbrev pub IsShortage : ℕ → Error → Type 0
IsShortage workers e = (e ≡ Memory) ⊎ ((e ≡ SpawnThread) × (1 < workers))

module _ {T U : Type 0} (q : Query T U) (may : Allows U) (start : ℕ) (es : List IndexEntry) (from : ℕ) where
  -- The work ended: at an entry that has a fault or runs out of memory, or because it couldn't go on.
  pub record IsWorkStopped (workers : ℕ) (reported : List (Finding T U)) (e : Error) : Type 0 where
    pub place : ℕ
    pub found : List (Finding T U)
    pub totals : Totals
    pub done : IsDone q may start es from place found totals
    pub by : ((reported ≡ found) × (place < length es)
        × IsFaulty q may es place e)
        ⊎ (IsShortage workers e × IsBeginning reported found)

  -- The entries up to a position are done: it is `to`, or the interrupt flag was seen there.
  pub record IsWorkReached (interruptible : Bool) (to : ℕ) (reported : List (Finding T U))
      (p : Progress) : Type 0 where
    pub place : ℕ
    pub done : IsDone q may start es from place reported p.totals
    pub reached : p.interrupted ≡ false → place ≡ to
    pub uninterrupted : interruptible ≡ false → p.interrupted ≡ false

  abbrev pub IsWorkEnd : Bool → ℕ → ℕ → List (Finding T U) → Result Progress Error → Type 0
  IsWorkEnd interruptible workers to reported (Ok p) = IsWorkReached interruptible to reported p
  IsWorkEnd interruptible workers to reported (Err e) = IsWorkStopped workers reported e

  module _ (faithful : Visit T U → Type 0) where
    -- The entries before a position are done and reported.
    pub record IsWorkSoFar (at : ℕ) (totals : Totals) (old now : List (Visit T U)) : Type 0 where
      pub reported : List (Finding T U)
      pub fed : Reports faithful reported old now
      pub done : IsDone q may start es from at reported totals

    -- The records that were reported, and how the work ended.
    pub record IsReportedWork (interruptible : Bool) (workers to : ℕ) (old : List (Visit T U))
        (result : Result Progress Error) (new : List (Visit T U)) : Type 0 where
      pub reported : List (Finding T U)
      pub fed : Reports faithful reported old new
      pub ended : IsWorkEnd interruptible workers to reported result
