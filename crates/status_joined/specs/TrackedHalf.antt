-- The status's part of both halves: its records, or its failure.
use Rattle.std.specs.Prelude.{◌≡◌, ◌≢◌, ℕ, ◌<◌, ◌^◌, Bool, true, false, IsTrue, List, map, All, AllPairs, Option, Some, Result, Ok, Err}
use Rattle.std.specs.Global.{Vec}
use Rattle.status_index.specs.declared.state.State.{State}
use Rattle.status_index.specs.States.{entries_of, backing_of}
use Rattle.status_compare.specs.declared.error.Error.{Error}
use Rattle.status_compare.specs.declared.error.Error.TheVariants.{Memory, SpawnThread}
use Rattle.status_call.specs.Counts.{skipped_of}
use Rattle.status_call.specs.Query.{Query}
use Rattle.status_call.specs.RecorderVisits.{visit_of}
use Rattle.status_call.specs.StatusTheorem.{IsComplete, IsFirstFault, IsStatusOfSome, NeverSpawns}
use Rattle.status_call.specs.Visits.{Visit, finding_of, IsFaithful}
use Rattle.status_call.specs.declared.index_as_worktree.recorder.Record.{Record}
use Rattle.status_call.specs.declared.index_as_worktree.types.Finding.{Finding}
use Rattle.status_call.specs.declared.index_as_worktree.types.Outcome.{Outcome}

module _ {T U : Type 0} (query : Query T U) (index : State) where
  -- The status's records and the walk's kept nodes, or the walk's failure, or otherwise the status's. These are the records: of
  -- the index's own entries, in index order. If all interfaces are modelled, they are all records, or, if the flag was seen,
  -- those of the first considered entries, for some number of these.
  pub record IsTrackedHalf (interruptible : Bool) (visits : List (Visit T U)) (o : Outcome) : Type 0 where
    pub faithful : All (IsFaithful (entries_of index) (backing_of index)) visits
    pub ascends : AllPairs (λ a b. a.entry_index < b.entry_index) visits
    pub complete : IsTrue query.modelled → o.interrupted ≡ false → IsComplete query index (map finding_of visits) o
    pub interrupted : IsTrue query.modelled → o.interrupted ≡ true → IsStatusOfSome query index (map finding_of visits) o
    pub uninterrupted : interruptible ≡ false → o.interrupted ≡ false
    pub fits : skipped_of o < 2 ^ 64

module _ {T U : Type 0} (query : Query T U) (limit : Option ℕ) (index : State) where
  -- If all interfaces are modelled, the error is the status's first fault, unless memory ran out or a thread was refused. With
  -- limit 1 no thread is refused if the comparer never returns that error.
  pub record IsTrackedFailure (e : Error) : Type 0 where
    pub found : List (Finding T U)
    pub first : IsTrue query.modelled → e ≢ Memory → e ≢ SpawnThread → IsFirstFault query index found e
    pub alone : IsTrue query.modelled → limit ≡ Some 1 → NeverSpawns query → e ≢ SpawnThread

  abbrev pub IsRecorded : Bool → Result (Vec (Record T U) × Outcome) Error → Type 0
  IsRecorded interruptible (Ok t) = IsTrackedHalf query index interruptible (map visit_of t.0.items) t.1
  IsRecorded interruptible (Err e) = IsTrackedFailure e
