-- The records of an index, and its first fault.
use Rattle.std.specs.Prelude.{ℕ, ◌==◌, ◌||◌, List, [], ◌∷◌, map, Option, Some, None, option_map, Result, Ok, Err, slice_get, if◌then◌else◌}
use Rattle.std.specs.List.{flat_map, filter_map, enumerate_from}
use Rattle.status_index.specs.Entries.{IndexEntry, stage_of}
use Rattle.status_compare.specs.declared.error.Error.{Error}
use Rattle.status_call.specs.declared.index_as_worktree.types.EntryStatus.{EntryStatus}
use Rattle.status_call.specs.declared.index_as_worktree.types.EntryStatus.TheVariants as statuses
use Rattle.status_call.specs.declared.index_as_worktree.types.Finding.{Finding}
use Rattle.status_call.specs.Considered.{is_skipped, is_over, stages_from}
use Rattle.status_call.specs.Conflicts.{conflict_of, places_of, kept_of}
use Rattle.status_call.specs.Query.{Query}
use Rattle.status_call.specs.Status.{status_of}

-- The status of a conflict with these entries.
abbrev pub conflict_status : {T U : Type 0} → List IndexEntry → Option (EntryStatus T U)
conflict_status run = option_map
    (λ c. statuses.Conflict c (map (option_map kept_of) (places_of run))) (conflict_of run)

module _ {T U : Type 0} where
  -- The record of the entry at position i of the whole index, if it has one.
  abbrev pub record_by : ℕ → Result (Option (EntryStatus T U)) Error → List (Finding T U)
  record_by i (Ok (Some status)) = record { entry_index = i; status = status } ∷ []
  record_by i (Ok None) = []
  record_by i (Err e) = []

  abbrev pub fault_by : Result (Option (EntryStatus T U)) Error → Option Error
  fault_by (Ok _) = None
  fault_by (Err e) = Some e

module _ {T U : Type 0} (q : Query T U) (es : List IndexEntry) where
  -- A considered entry has its status at stage 0, a conflict at a head (unskipped, stage above 0, not over), and otherwise
  -- nothing. `es` are all considered entries.
  abbrev pub verdict : IndexEntry → Result (Option (EntryStatus T U)) Error
  verdict e =
      if is_skipped q e || is_over q es e then Ok None
      else (if stage_of e == 0 then status_of q e else Ok (conflict_status (stages_from es e)))

  -- The records of a part of the considered entries, the first of which is at position i of the whole index.
  abbrev pub records_in : ℕ → List IndexEntry → List (Finding T U)
  records_in i part = flat_map (λ p. record_by p.0 (verdict p.1)) (enumerate_from i part)

  -- The faults of a part of the considered entries.
  abbrev pub faults_in : List IndexEntry → List Error
  faults_in part = filter_map (λ e. fault_by (verdict e)) part

module _ {T U : Type 0} (q : Query T U) where
  -- The records of considered entries, in index order, and the fault of the first that has one. The first considered entry is at
  -- position `start` of the whole index.
  abbrev pub records_of : ℕ → List IndexEntry → List (Finding T U)
  records_of start es = records_in q es start es

  -- The fault of the first considered entry that has one.
  abbrev pub first_fault : List IndexEntry → Option Error
  first_fault es = slice_get (faults_in q es es) 0
