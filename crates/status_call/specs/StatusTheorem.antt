-- The status theorem; with limit 1 only a comparer may report a refused thread. It states a status's reports to its collector,
-- and its result.
use Rattle.std.specs.Prelude.{◌≡◌, ◌≢◌, ℕ, ◌<◌, ◌≤◌, ◌^◌, false, true, IsTrue, List, ◌++◌, [], length, take, map, All, AllPairs, Some, None, Result, Err, IfOk, IfErr}
use Rattle.std.specs.List.{slice_index_or}
use Rattle.status_index.specs.declared.stat.Metadata.{Metadata}
use Rattle.status_index.specs.declared.state.State.{State}
use Rattle.status_index.specs.Entries.{IndexEntry}
use Rattle.status_index.specs.States.{entries_of, backing_of, index_of}
use Rattle.status_compare.specs.declared.error.Error.{Error}
use Rattle.status_compare.specs.declared.error.Error.TheVariants.{Memory, SpawnThread}
use Rattle.status_call.specs.declared.index_as_worktree.types.Outcome.{Outcome}
use Rattle.status_call.specs.declared.index_as_worktree.types.Finding.{Finding}
use Rattle.status_call.specs.Considered.{considered, considered_start}
use Rattle.status_call.specs.Counts.{IsOutcome}
use Rattle.status_call.specs.Counts.{skipped_of}
use Rattle.status_call.specs.Query.{Query}
use Rattle.status_call.specs.Records.{records_of, records_in, faults_in, first_fault, verdict}
use Rattle.status_call.specs.Status.{readings}
use Rattle.status_call.specs.Visits.{Visit, finding_of, IsFaithful}

-- A list is a beginning of another.
abbrev pub IsBeginning : {A : Type 0} → List A → List A → Type 0
IsBeginning {A} front all = (rest : List A) × (front ++ rest ≡ all)

-- The comparer never returns that a thread was refused.
abbrev pub NeverSpawns : {T U : Type 0} → Query T U → Type 0
NeverSpawns q = (e : IndexEntry) (n : Metadata)
    → q.compared e n.len (readings q e n) ≢ Err SpawnThread

module _ {T U : Type 0} (q : Query T U) (index : State) where
  -- The considered entries, and the position of the first of them.
  abbrev pub considered_entries : List IndexEntry
  considered_entries = considered q.prefix (index_of index)

  abbrev pub start_of : ℕ
  start_of = considered_start q.prefix (index_of index)

  -- The first n considered entries have no fault, these are their records, and the outcome counts them.
  pub record IsStatusOf (n : ℕ) (reported : List (Finding T U)) (o : Outcome) : Type 0 where
    pub clear : faults_in q considered_entries (take n considered_entries) ≡ []
    pub records : reported ≡ records_in q considered_entries start_of (take n considered_entries)
    pub outcome : IsOutcome q (index_of index) considered_entries (take n considered_entries) o

  -- The same for some n.
  abbrev pub IsStatusOfSome : List (Finding T U) → Outcome → Type 0
  IsStatusOfSome reported o = (n : ℕ) × (n ≤ length considered_entries) × IsStatusOf n reported o

  -- No entry has a fault, these are all records, and the outcome counts all entries.
  pub record IsComplete (reported : List (Finding T U)) (o : Outcome) : Type 0 where
    pub no_fault : first_fault q considered_entries ≡ None
    pub records : reported ≡ records_of q start_of considered_entries
    pub outcome : IsOutcome q (index_of index) considered_entries considered_entries o

  -- The error is the first fault, and the records are exactly those before it.
  pub record IsFirstFault (reported : List (Finding T U)) (e : Error) : Type 0 where
    pub first : first_fault q considered_entries ≡ Some e
    pub place : ℕ
    pub inside : place < length considered_entries
    pub clear : faults_in q considered_entries (take place considered_entries) ≡ []
    pub here : (d : IndexEntry)
        → verdict q considered_entries (slice_index_or considered_entries place d) ≡ Err e
    pub records : reported
        ≡ records_in q considered_entries start_of (take place considered_entries)

  -- The records that were reported over any worktree, and over one for which all interfaces passed are modelled.
  pub record IsStatusReport (old : List (Visit T U)) (result : Result Outcome Error)
      (new : List (Visit T U)) : Type 0 where
    pub more : List (Visit T U)
    pub grew : new ≡ old ++ more
    -- Each reported entry is the index's at its position, with its own path and the whole index, and the positions ascend.
    pub faithful : All (IsFaithful (entries_of index) (backing_of index)) more
    pub ascends : AllPairs (λ a b. a.entry_index < b.entry_index) more
    -- Ok, not interrupted: no fault, all records, all counts.
    pub complete : IsTrue q.modelled
        → IfOk result (λ o. o.interrupted ≡ false → IsComplete (map finding_of more) o)
    -- Ok, interrupted: the same of the first n considered entries.
    pub interrupted : IsTrue q.modelled
        → IfOk result (λ o. o.interrupted ≡ true → IsStatusOfSome (map finding_of more) o)
    -- An error other than out of memory or a refused thread: the first fault, with exactly the records before it.
    pub fault : IsTrue q.modelled
        → IfErr result (λ e. e ≢ Memory → e ≢ SpawnThread → IsFirstFault (map finding_of more) e)
    -- On every exit: a beginning of the records.
    pub beginning : IsTrue q.modelled
        → IsBeginning (map finding_of more) (records_of q start_of considered_entries)
    -- Over any worktree: the counts of skipped entries have a sum that fits.
    pub fits : IfOk result (λ o. skipped_of o < 2 ^ 64)
