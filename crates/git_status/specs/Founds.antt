-- The status of an index, with the changes that a refresh makes if they are wanted.
use Rattle.std.specs.Prelude.{◌≡◌, ◌⊎◌, ℕ, Bool, true, List, Option, Result, Ok, Err}
use Rattle.std.specs.Result.{IsErrAnd}
use Rattle.git_attributes.specs.Files.{Said, attributes_of}
use Rattle.status_call.specs.Inputs.{settings}
use Rattle.status_call.specs.MayReturn.{MayReturn}
use Rattle.status_call.specs.Query.{Query}
use Rattle.status_call.specs.Visits.{Visit}
use Rattle.status_index.specs.declared.state.State.{State}
use Rattle.git_status.specs.Besides.{MayFind}
use Rattle.git_status.specs.Kept.{Asks, is_whole, kept_changes}
use Rattle.git_index.specs.Refusals.{EndsWithChecksum}
use Rattle.git_status.specs.Runs.{Asking, Converting, IsEarly, IsStatusRun}
use Rattle.git_status.specs.declared.asked.Settings.{Settings}
use Rattle.git_status.specs.declared.answer.Report.{Report}
use Rattle.git_status.specs.declared.failure.Failure.{Failure}
use Rattle.git_status.specs.declared.failure.Failure.TheVariants.{Memory}
use Rattle.git_status.specs.declared.found.Found.{Found}

module _ {T U : Type 0} where
  -- The changes that a refresh makes by these records, and whether it is whole.
  abbrev pub IsFoundIn : Asks → List (Visit T U) → Found → Type 0
  IsFoundIn asks visits found = (found.changes.items ≡ kept_changes asks visits) × (found.is_whole ≡ is_whole asks visits found.report.outcome)

  -- A status of this index was printed, with the changes that a refresh makes if they are wanted; or it failed; or memory ran out for the
  -- changes after it was printed.
  abbrev pub IsFoundRun : Bool → MayFind → Said → Query T U → MayReturn U → State → Settings → Option (List ℕ) → Result Found Failure → Option (List ℕ) → Type 0
  IsFoundRun wanted may_find said query may index s old (Ok found) new = (run : IsStatusRun may_find query may index s old (Ok found.report) new) × (wanted ≡ true → IsFoundIn (said, s.conversions) run.visits found)
  IsFoundRun wanted may_find said query may index s old (Err f) new = IsStatusRun may_find query may index s old (Err f) new ⊎ ((r : Report) × IsStatusRun may_find query may index s old (Ok r) new × (f ≡ Memory) × (wanted ≡ true))

  -- The same for the index of a file with a right checksum, with line ends converted; or the command ended before it.
  unfoldable pub IsIndexFound : Bool → Asking T U → List ℕ → State → Option (List ℕ) → Result Found Failure → Option (List ℕ) → Type 0
  IsIndexFound wanted a bytes index old result new =
      (EndsWithChecksum a.settings.kind bytes × ((c : Converting a index) × IsFoundRun wanted a.may_find (attributes_of c.files) (a.query c.filter (settings a.settings.options index)) a.may_return index a.settings old result new))
      ⊎ (IsErrAnd result (IsEarly a.settings.kind bytes) × (new ≡ old))
