-- How a status and its changes make a refresh.
use Rattle.std.proofs.Common.{◌≡◌, ◌≢◌, ◌<◌, ◌^◌, ◌==◌, ℕ, Bool, true, false, List, [], ◌∷◌, length, Option, Result, Ok, Err, IfOk, inl, inr, refl, sym, subst}
use Rattle.std.specs.Result.{IsErrAnd}
use Rattle.std.proofs.lemmas.Bool.{false≢true}
use Rattle.git_attributes.specs.Files.{File, Said, attributes_of}
use Rattle.git_attributes.specs.declared.clean.CleanFilter.{CleanFilter}
use Rattle.git_attributes.specs.Views.{attributes_view}
use Rattle.git_index.specs.File.{IsFileOf}
use Rattle.git_index.specs.Refusals.{EndsWithChecksum}
use Rattle.git_index.specs.declared.fault.IndexFileError.TheVariants.{Checksum}
use Rattle.status_index.specs.declared.id.HashKind.{HashKind}
use Rattle.status_call.specs.Inputs.{settings}
use Rattle.status_call.specs.IndexChanges.{AreInside}
use Rattle.status_index.specs.States.{index_of, timestamp_of}
use Rattle.git_status.specs.declared.refresh.Refreshed.{Refreshed}
use Rattle.status_call.specs.Counts.{skipped_of}
use Rattle.status_call.specs.MayReturn.{MayReturn}
use Rattle.status_call.specs.Query.{Query}
use Rattle.status_call.specs.Visits.{Visit}
use Rattle.status_call.specs.declared.index_as_worktree.types.Outcome.{Outcome}
use Rattle.status_compare.specs.declared.error.Error.{Error}
use Rattle.status_index.specs.declared.state.State.{State}
use Rattle.git_status.specs.Besides.{Beside, MayFind}
use Rattle.git_attributes.specs.declared.fault.AttributeFault.{AttributeFault}
use Rattle.git_attributes.specs.declared.fault.AttributeFault.TheVariants as attributes
use Rattle.git_status.specs.Failures.{failure_of_attributes}
use Rattle.git_status.specs.Founds.{IsFoundIn, IsFoundRun, IsIndexFound}
use Rattle.git_status.specs.Refreshes.{IsFileRefreshed, IsRefresh, IsRefreshedFile, IsUnrefreshed}
use Rattle.git_status.specs.Runs.{Asking, Converting, IsComputed, IsEarly, IsCommandEnd, IsCommandRun, IsStatusRun, IsUnfound, ReadFile}
use Rattle.git_status.specs.declared.asked.Settings.{Settings}
use Rattle.git_status.specs.declared.answer.Report.{Report}
use Rattle.git_status.specs.declared.failure.Failure.{Failure}
use Rattle.git_status.specs.declared.failure.Failure.TheVariants.{Index, Memory}
use Rattle.git_status.specs.declared.found.Found.{Found}
use Rattle.git_status.proofs.LeftOut.{kept_inside}
use Rattle.git_status.proofs.Runs.{early_run, file_run, status_run}

-- a list that has a length other than 0
pub not_empty : {A : Type 0} (xs : List A) (n : ℕ) → n ≡ length xs → (n == 0) ≡ false → xs ≢ []
not_empty [] n len none nil = absurd (let known : (0 == 0) ≡ false = subst (λ m. (m == 0) ≡ false) len none in cc)
not_empty (x ∷ xs) n len none nil = absurd (cc)

-- memory that ran out early
memory_early : {A : Type 0} (kind : HashKind) (bytes : List ℕ) (result : Result A Failure) → IsErrAnd result (λ f. f ≡ Memory) → IsErrAnd result (IsEarly kind bytes)
memory_early kind bytes (Ok x) failed = absurd failed
memory_early kind bytes (Err f) failed = inl (inl failed)

-- an attribute file couldn't be read
attributes_early : (kind : HashKind) (bytes : List ℕ) (fault : AttributeFault) → IsEarly kind bytes (failure_of_attributes fault)
attributes_early kind bytes attributes.Memory = inl (inl refl)
attributes_early kind bytes (attributes.Object path fault) = inr (inr (path, fault, refl))

module _ {T U : Type 0} where
  -- the changes were found, if they are wanted
  pub found_run : (wanted : Bool) (may_find : MayFind) (said : Said) (query : Query T U) (may : MayReturn U) (index : State) (s : Settings) (beside : Beside) (visits : List (Visit T U)) (answer : Result Outcome Error) (old : Option (List ℕ)) (found : Found) (new : Option (List ℕ))
      → may_find (index_of index) beside → IsComputed query may index s answer visits → IsCommandEnd s.lines beside visits answer old (Ok found.report) new → (wanted ≡ true → IsFoundIn (said, s.conversions) visits found) → IsFoundRun wanted may_find said query may index s old (Ok found) new
  found_run wanted may_find said query may index s beside visits answer old found new is computed ended kept = (record { beside = beside; found = is; visits = visits; answer = answer; computed = computed; ended = ended }, kept)

  -- the counts of skipped entries have a sum that fits
  pub skipped_fits : (query : Query T U) (may : MayReturn U) (index : State) (s : Settings) (beside : Beside) (visits : List (Visit T U)) (answer : Result Outcome Error) (old : Option (List ℕ)) (r : Report) (new : Option (List ℕ))
      → IsComputed query may index s answer visits → IsCommandEnd s.lines beside visits answer old (Ok r) new → skipped_of r.outcome < 2 ^ 64
  skipped_fits query may index s beside visits answer old r new computed (inl ended) = subst (λ a. IfOk a (λ o. skipped_of o < 2 ^ 64)) ended.1.outcome computed.met.fits
  skipped_fits query may index s beside visits answer old r new computed (inr failed) = absurd failed

  -- the status has no report
  pub unfound_run : (wanted : Bool) (may_find : MayFind) (said : Said) (query : Query T U) (may : MayReturn U) (index : State) (s : Settings) (beside : Beside) (visits : List (Visit T U)) (answer : Result Outcome Error) (old : Option (List ℕ)) (f : Failure) (result : Result Found Failure) (new : Option (List ℕ))
      → may_find (index_of index) beside → IsComputed query may index s answer visits → IsCommandEnd s.lines beside visits answer old (Err f) new → IsErrAnd result (λ e. e ≡ f) → IsFoundRun wanted may_find said query may index s old result new
  unfound_run wanted may_find said query may index s beside visits answer old f (Ok found) new is computed ended failed = absurd failed
  unfound_run wanted may_find said query may index s beside visits answer old f (Err e) new is computed ended failed =
      inl (subst (λ e. IsStatusRun may_find query may index s old (Err e) new) (sym failed) (status_run may_find query may index s beside visits answer old (Err f) new is computed ended))

  -- memory ran out after it, for the changes
  pub late_run : (wanted : Bool) (may_find : MayFind) (said : Said) (query : Query T U) (may : MayReturn U) (index : State) (s : Settings) (beside : Beside) (visits : List (Visit T U)) (answer : Result Outcome Error) (old : Option (List ℕ)) (r : Report) (result : Result Found Failure) (new : Option (List ℕ))
      → may_find (index_of index) beside → IsComputed query may index s answer visits → IsCommandEnd s.lines beside visits answer old (Ok r) new → IsErrAnd result (λ e. e ≡ Memory) → wanted ≡ true → IsFoundRun wanted may_find said query may index s old result new
  late_run wanted may_find said query may index s beside visits answer old r (Ok found) new is computed ended failed on = absurd failed
  late_run wanted may_find said query may index s beside visits answer old r (Err e) new is computed ended failed on = inr (r, status_run may_find query may index s beside visits answer old (Ok r) new is computed ended, failed, on)

  -- the changes that were found are of entries of the index
  pub found_inside : (may_find : MayFind) (said : Said) (query : Query T U) (may : MayReturn U) (index : State) (s : Settings) (old : Option (List ℕ)) (found : Found) (new : Option (List ℕ)) → IsFoundRun true may_find said query may index s old (Ok found) new → AreInside found.changes.items (index_of index)
  found_inside may_find said query may index s old found new run =
      subst (λ changes. AreInside changes (index_of index)) (sym (run.1 refl).0) (kept_inside (said, s.conversions) query index run.0.answer run.0.visits run.0.computed.met)

  -- the index of a file with a right checksum, whose line ends are converted, and the changes that its status asks for
  pub index_found : (wanted : Bool) (a : Asking T U) (bytes : List ℕ) (index : State) (files : List File) (filter : CleanFilter) (old : Option (List ℕ)) (result : Result Found Failure) (new : Option (List ℕ))
      → EndsWithChecksum a.settings.kind bytes → a.are_files index files → attributes_view filter.attributes.now ≡ attributes_of files → filter.configured ≡ a.settings.conversions → filter.index.now ≡ index → filter.kind ≡ a.settings.kind
      → IsFoundRun wanted a.may_find (attributes_view filter.attributes.now) (a.query filter (settings a.settings.options index)) a.may_return index a.settings old result new → IsIndexFound wanted a bytes index old result new
  unfolding IsIndexFound
  index_found wanted a bytes index files filter old result new checked found attributes configured entries kind run =
      inl (
        checked,
        (
          record { files = files; found = found; filter = filter; attributes = attributes; configured = configured; entries = entries; kind = kind },
          subst (λ said. IsFoundRun wanted a.may_find said (a.query filter (settings a.settings.options index)) a.may_return index a.settings old result new) attributes run,
        ),
      )

  -- memory ran out before the status of an index
  pub unfound_index : (wanted : Bool) (a : Asking T U) (bytes : List ℕ) (index : State) (known : Option (List ℕ)) (result : Result Found Failure)
      → IsErrAnd result (λ f. f ≡ Memory) → IsIndexFound wanted a bytes index known result known
  unfolding IsIndexFound
  unfound_index wanted a bytes index known result failed = inr (memory_early a.settings.kind bytes result failed, refl)

  -- the findings next to the status can't be made
  pub sightless_index : (wanted : Bool) (a : Asking T U) (bytes : List ℕ) (index : State) (known : Option (List ℕ)) (f : Failure) (result : Result Found Failure)
      → IsUnfound f → IsErrAnd result (λ e. e ≡ f) → IsIndexFound wanted a bytes index known result known
  unfolding IsIndexFound
  sightless_index wanted a bytes index known f (Ok found) why failed = absurd failed
  sightless_index wanted a bytes index known f (Err e) why failed = inr (inl (subst IsUnfound (sym failed) why), refl)

  -- an attribute file can't be read
  pub unattributed_index : (wanted : Bool) (a : Asking T U) (bytes : List ℕ) (index : State) (known : Option (List ℕ)) (fault : AttributeFault) (result : Result Found Failure)
      → IsErrAnd result (λ e. e ≡ failure_of_attributes fault) → IsIndexFound wanted a bytes index known result known
  unfolding IsIndexFound
  unattributed_index wanted a bytes index known fault (Ok found) failed = absurd failed
  unattributed_index wanted a bytes index known fault (Err e) failed = inr (subst (IsEarly a.settings.kind bytes) (sym failed) (attributes_early a.settings.kind bytes fault), refl)

  -- the checksum is wrong
  pub wrong_index : (wanted : Bool) (a : Asking T U) (bytes : List ℕ) (index : State) (known : Option (List ℕ)) → (EndsWithChecksum a.settings.kind bytes → ⊥) → IsIndexFound wanted a bytes index known (Err (Index Checksum)) known
  unfolding IsIndexFound
  wrong_index wanted a bytes index known wrong = inr (inr (inl (refl, wrong)), refl)

  -- what was found
  abbrev FoundIn : Bool → Asking T U → State → Option (List ℕ) → Found → Option (List ℕ) → Type 0
  FoundIn wanted a index old found new = (c : Converting a index) × IsFoundRun wanted a.may_find (attributes_of c.files) (a.query c.filter (settings a.settings.options index)) a.may_return index a.settings old (Ok found) new

  found_in : (wanted : Bool) (a : Asking T U) (bytes : List ℕ) (index : State) (old : Option (List ℕ)) (found : Found) (new : Option (List ℕ))
      → IsIndexFound wanted a bytes index old (Ok found) new → EndsWithChecksum a.settings.kind bytes × FoundIn wanted a index old found new
  unfolding IsIndexFound
  found_in wanted a bytes index old found new (inl run) = run
  found_in wanted a bytes index old found new (inr early) = absurd early.0

  -- the file of a status that was found has a right checksum
  pub found_checked : (wanted : Bool) (a : Asking T U) (bytes : List ℕ) (index : State) (old : Option (List ℕ)) (found : Found) (new : Option (List ℕ))
      → IsIndexFound wanted a bytes index old (Ok found) new → EndsWithChecksum a.settings.kind bytes
  found_checked wanted a bytes index old found new run = (found_in wanted a bytes index old found new run).0

  -- they are of entries of the index
  pub index_inside : (a : Asking T U) (bytes : List ℕ) (index : State) (old : Option (List ℕ)) (found : Found) (new : Option (List ℕ))
      → IsIndexFound true a bytes index old (Ok found) new → AreInside found.changes.items (index_of index)
  index_inside a bytes index old found new run =
      let c = (found_in true a bytes index old found new run).1 in found_inside a.may_find (attributes_of c.0.files) (a.query c.0.filter (settings a.settings.options index)) a.may_return index a.settings old found new c.1

  module _ (a : Asking T U) (bytes : List ℕ) (old : Option (List ℕ)) (index : State) (version : ℕ) (extensions : List ℕ)
      (file : EndsWithChecksum a.settings.kind bytes → IsFileOf a.settings.kind bytes version (index_of index) extensions) (time : timestamp_of index ≡ a.settings.timestamp) where
    abbrev read_by : EndsWithChecksum a.settings.kind bytes → Converting a index → ReadFile a bytes
    read_by checked c = record { index = index; version = version; extensions = extensions; file = file checked; time = time; converting = c }

    -- a file that was read, and its status, for which no changes are wanted
    pub reported_file : (found : Found) (new : Option (List ℕ)) → IsIndexFound false a bytes index old (Ok found) new → IsCommandRun a bytes old (Ok found.report) new
    reported_file found new run =
        let c = found_in false a bytes index old found new run in file_run a bytes old (Ok found.report) new (read_by c.0 c.1.0) c.1.1.0

    unreported : (f : Failure) (new : Option (List ℕ)) → IsIndexFound false a bytes index old (Err f) new → IsCommandRun a bytes old (Err f) new
    unfolding IsIndexFound
    unreported f new (inl (checked, (c, inl run))) = file_run a bytes old (Err f) new (read_by checked c) run
    unreported f new (inl (checked, (c, inr late))) = absurd (false≢true late.3)
    unreported f new (inr early) = subst (λ after. IsCommandRun a bytes old (Err f) after) (sym early.1) (early_run a bytes old (Err f) early.0)

    pub unreported_file : (f : Failure) (result : Result Report Failure) (new : Option (List ℕ)) → IsIndexFound false a bytes index old (Err f) new → IsErrAnd result (λ e. e ≡ f) → IsCommandRun a bytes old result new
    unreported_file f (Ok r) new run failed = absurd failed
    unreported_file f (Err e) new run failed = subst (λ e. IsCommandRun a bytes old (Err e) new) (sym failed) (unreported f new run)

    -- a file that was read, and its new bytes
    pub refreshed_file : (found : Found) (refreshed new : Option (List ℕ)) → IsIndexFound true a bytes index old (Ok found) new
        → IsRefreshedFile a.settings.kind bytes version extensions (index_of index) found.changes.items refreshed → IsFileRefreshed a bytes old found.report found.is_whole extensions refreshed new
    refreshed_file found refreshed new run fits =
        let c = found_in true a bytes index old found new run in
        record {
          run = (read_by c.0 c.1.0, c.1.1.0);
          kept = refl;
          whole = (c.1.1.1 refl).1;
          file = subst (λ changes. IsRefreshedFile a.settings.kind bytes version extensions (index_of index) changes refreshed) (c.1.1.1 refl).0 fits;
        }

    -- a file that was read, and whose status fails, or memory ran out after it
    unrefreshed : (f : Failure) (new : Option (List ℕ)) → EndsWithChecksum a.settings.kind bytes → (c : Converting a index) → IsFoundRun true a.may_find (attributes_of c.files) (a.query c.filter (settings a.settings.options index)) a.may_return index a.settings old (Err f) new → IsUnrefreshed a bytes old f new
    unrefreshed f new checked c (inl run) = inl (file_run a bytes old (Err f) new (read_by checked c) run)
    unrefreshed f new checked c (inr late) = inr (late.0, file_run a bytes old (Ok late.0) new (read_by checked c) late.1, late.2)

    failed_by : (f : Failure) (new : Option (List ℕ)) → IsIndexFound true a bytes index old (Err f) new → IsUnrefreshed a bytes old f new
    unfolding IsIndexFound
    failed_by f new (inl run) = unrefreshed f new run.0 run.1.0 run.1.1
    failed_by f new (inr early) = inl (subst (λ after. IsCommandRun a bytes old (Err f) after) (sym early.1) (early_run a bytes old (Err f) early.0))

    pub unrefreshed_file : (f : Failure) (result : Result (Report × Refreshed) Failure) (new : Option (List ℕ)) → IsIndexFound true a bytes index old (Err f) new → IsErrAnd result (λ e. e ≡ f) → IsRefresh a bytes old result new
    unfolding IsRefresh
    unrefreshed_file f (Ok r) new run failed = absurd failed
    unrefreshed_file f (Err e) new run failed = subst (λ e. IsUnrefreshed a bytes old e new) (sym failed) (failed_by f new run)

    -- memory ran out after the changes were found
    pub late_file : (found : Found) (result : Result (Report × Refreshed) Failure) (new : Option (List ℕ)) → IsIndexFound true a bytes index old (Ok found) new → IsErrAnd result (λ e. e ≡ Memory) → IsRefresh a bytes old result new
    unfolding IsRefresh
    late_file found (Ok r) new run failed = absurd failed
    late_file found (Err e) new run failed =
        let c = found_in true a bytes index old found new run in inr (found.report, file_run a bytes old (Ok found.report) new (read_by c.0 c.1.0) c.1.1.0, failed)
