-- How the parts of a run make the whole.
use Rattle.std.proofs.Common.{◌≡◌, ℕ, true, false, List, [], Option, None, Some, Result, Ok, Err, IfSome, Bool, false, inl, inr, refl}
use Rattle.std.specs.Prelude.{is_some}
use Rattle.std.proofs.Math.Logic.{∥∥₁_map}
use Rattle.status_call.proofs.StatusProof.{met_along, unspawned_along}
use Rattle.status_call.proofs.StatusSeen.{seen_along}
use Rattle.status_call.specs.Views.{Allows, SeesWithin}
use Rattle.std.specs.Result.{IsErrAnd}
use Rattle.status_call.specs.Inputs.{settings}
use Rattle.status_call.specs.MayReturn.{MayReturn}
use Rattle.status_call.specs.Query.{Query}
use Rattle.status_call.specs.EntrySights.{IsViewAllowed}
use Rattle.status_call.specs.Visits.{Visit}
use Rattle.status_call.specs.declared.index_as_worktree.types.Outcome.{Outcome}
use Rattle.status_compare.specs.declared.error.Error.{Error}
use Rattle.status_index.specs.States.{index_of}
use Rattle.status_index.specs.declared.state.State.{State}
use Rattle.git_status.specs.Besides.{Beside, MayFind}
use Rattle.git_status.specs.Runs.{Asking, IsComputed, IsComputedBy, IsCommandEnd, IsCommandRun, IsEarly, IsStatusRun, ReadFile}
use Rattle.git_status.specs.declared.asked.Settings.{Settings}
use Rattle.git_status.specs.declared.answer.Report.{Report}
use Rattle.git_status.specs.declared.failure.Failure.{Failure}

module _ {T U : Type 0} where
  -- a status that was computed by an equal query, and by no more than what may be seen
  pub computed_as : (query : Query T U) (may : MayReturn U) (index : State) (s : Settings) (by : Query T U) (allows : Allows U) (interruptible : Bool) (limit : Option ℕ) (answer : Result Outcome Error) (visits : List (Visit T U))
      → by ≡ query → SeesWithin allows (IsViewAllowed may s.options.fscache) → (is_some s.lines ≡ true → interruptible ≡ false) → limit ≡ s.options.thread_limit
      → IsComputedBy by allows index interruptible limit answer visits → IsComputed query may index s answer visits
  computed_as query may index s by allows interruptible limit answer visits same within never limits h = record {
    met = met_along query by same index [] answer visits h.met;
    seen = ∥∥₁_map h.seen (seen_along query by allows (IsViewAllowed may s.options.fscache) same within index [] answer visits);
    whole = λ some. h.whole (never some);
    alone = unspawned_along query by same s.options.thread_limit limit limits answer h.alone;
  }

  -- a status that was computed, and how the command ended
  pub status_run : (may_find : MayFind) (query : Query T U) (may : MayReturn U) (index : State) (s : Settings) (beside : Beside) (visits : List (Visit T U)) (answer : Result Outcome Error) (old : Option (List ℕ)) (result : Result Report Failure) (new : Option (List ℕ))
      → may_find (index_of index) beside → IsComputed query may index s answer visits → IsCommandEnd s.lines beside visits answer old result new → IsStatusRun may_find query may index s old result new
  status_run may_find query may index s beside visits answer old result new found computed ended = record { beside = beside; found = found; visits = visits; answer = answer; computed = computed; ended = ended }

  -- a file that was read, and the status of its index
  pub file_run : (a : Asking T U) (bytes : List ℕ) (old : Option (List ℕ)) (result : Result Report Failure) (new : Option (List ℕ)) (read : ReadFile a bytes)
      → IsStatusRun a.may_find (a.query read.converting.filter (settings a.settings.options read.index)) a.may_return read.index a.settings old result new → IsCommandRun a bytes old result new
  unfolding IsCommandRun
  file_run a bytes old (Ok r) new read run = (read, run)
  file_run a bytes old (Err f) new read run = inl (read, run)

  -- the command ended before the status
  pub early_run : (a : Asking T U) (bytes : List ℕ) (known : Option (List ℕ)) (result : Result Report Failure)
      → IsErrAnd result (IsEarly a.settings.kind bytes) → IsCommandRun a bytes known result known
  unfolding IsCommandRun
  early_run a bytes known (Ok r) failed = absurd failed
  early_run a bytes known (Err f) failed = inr (failed, refl)

-- nothing isn't something
pub none_not_some : {A : Type 0} (x : Option A) → x ≡ None → is_some x ≡ true → ⊥
none_not_some None empty some = cc
none_not_some (Some x) empty some = cc

-- what holds of a value, if there is one, by another fact
pub some_computed : {A : Type 0} (x : Option A) (P Q : A → Type 0) → ((a : A) → P a → Q a) → IfSome x P → IfSome x Q
some_computed None P Q f h = tt
some_computed (Some a) P Q f h = f a h
