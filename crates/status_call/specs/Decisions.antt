-- The decision of one entry.
use Rattle.std.specs.Prelude.{◌≡◌, ◌⊎◌, Result, Ok, Err}
use Rattle.status_index.specs.Entries.{IndexEntry}
use Rattle.status_compare.specs.declared.error.Error.{Error}
use Rattle.status_compare.specs.declared.error.Error.TheVariants.{Memory}
use Rattle.status_call.specs.declared.index_as_worktree.step.Decided.{Decided}
use Rattle.status_call.specs.Counts.{calls_lstat, is_racy_case, reads_of_case, ModelsReads}
use Rattle.status_call.specs.Query.{Query}
use Rattle.status_call.specs.Status.{case_of, status_of}

module _ {T U : Type 0} (q : Query T U) where
  -- The decision has the entry's status, and the counts of its work.
  pub record IsDecision (e : IndexEntry) (d : Decided T U) : Type 0 where
    pub status : status_of q e ≡ Ok d.status
    pub lstat_called : d.lstat_called ≡ calls_lstat q e
    pub racy : d.racy ≡ is_racy_case (case_of q e)
    pub reads : ModelsReads q → d.reads ≡ reads_of_case q e

  -- The specified decision, the specified error, or out of memory.
  abbrev pub IsDecided : IndexEntry → Result (Decided T U) Error → Type 0
  IsDecided e (Ok d) = IsDecision e d
  IsDecided e (Err x) = (status_of q e ≡ Err x) ⊎ (x ≡ Memory)
