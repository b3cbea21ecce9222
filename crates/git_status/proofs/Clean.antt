-- If no record is a difference, no entry differs.
use Rattle.std.proofs.Common.{◌≡◌, ◌∙◌, ℕ, ◌+◌, Bool, true, false, ◌||◌, List, [], ◌∷◌, map, All, Option, None, Some, Result, Ok, Err, IfOk, inl, inr, refl, sym, ap, subst, IsTrue}
use Rattle.std.specs.Prelude.{slice_get}
use Rattle.std.specs.List.{list_any, cons_option}
use Rattle.std.proofs.lemmas.List.Elements.{All-nil, All-cons}
use Rattle.std.proofs.lemmas.List.Folds.{list_any-append}
use Rattle.git_status.specs.Lines.{differs}
use Rattle.status_call.specs.Inputs.{settings}
use Rattle.status_call.specs.Query.{Query}
use Rattle.status_call.specs.Records.{fault_by, faults_in, record_by, records_in, verdict}
use Rattle.status_call.specs.StatusTheorem.{IsComplete, IsStatusReport, considered_entries, start_of}
use Rattle.status_call.specs.Visits.{Visit, finding_of}
use Rattle.status_call.specs.declared.index_as_worktree.types.EntryStatus.{EntryStatus}
use Rattle.status_call.specs.declared.index_as_worktree.types.Finding.{Finding}
use Rattle.status_call.specs.declared.index_as_worktree.types.Outcome.{Outcome}
use Rattle.status_compare.specs.declared.error.Error.{Error}
use Rattle.status_index.specs.Entries.{IndexEntry}
use Rattle.status_index.specs.declared.state.State.{State}
use Rattle.git_status.specs.Besides.{Beside, MayFind, is_anything}
use Rattle.std.proofs.Math.Logic.{∥∥₁_map}
use Rattle.status_call.specs.MayReturn.{MayReturn}
use Rattle.status_call.specs.Views.{as_seen}
use Rattle.git_status.specs.declared.lines.LineStyle.{LineStyle}
use Rattle.git_status.specs.Runs.{Asking, CleanLaw, HasNoDifference, IsCommandEnd, IsExit, IsReport, IsCommandRun, IsNothingBeside, IsSeenClean, IsStatusRun, NoneDiffers, is_difference}
use Rattle.git_status.specs.declared.asked.Settings.{Settings}
use Rattle.git_status.specs.declared.answer.Report.{Report}

-- both are false
neither : (a b : Bool) → (a || b) ≡ false → (a ≡ false) × (b ≡ false)
neither false b h = (refl, h)
neither true b h = absurd (cc)

-- a list without a first element is empty
first_none : {A : Type 0} (xs : List A) → slice_get xs 0 ≡ None → xs ≡ []
first_none [] h = refl
first_none (x ∷ xs) h = absurd (cc)

-- nothing was put in front of an empty list
no_option : {A : Type 0} (x : Option A) (xs : List A) → cons_option x xs ≡ [] → (x ≡ None) × (xs ≡ [])
no_option None xs h = (refl, h)
no_option (Some x) xs h = absurd (cc)

-- a test of mapped elements
any_mapped : {A B : Type 0} (f : A → B) (p : B → Bool) (xs : List A) → list_any p (map f xs) ≡ list_any (λ x. p (f x)) xs
any_mapped f p [] = refl
any_mapped f p (x ∷ xs) = ap (λ b. p (f x) || b) (any_mapped f p xs)

-- an early end has a difference
not_early : (b d : Bool) → (b ≡ true → d ≡ true) → d ≡ false → b ≡ false
not_early false d early none = refl
not_early true d early none = absurd (let some = early refl in cc)

module _ {T U : Type 0} where
  abbrev found_difference : Finding T U → Bool
  found_difference f = differs f.status

  one_clean : (v : Result (Option (EntryStatus T U)) Error) (i : ℕ) → list_any found_difference (record_by i v) ≡ false → fault_by v ≡ None → HasNoDifference v
  one_clean (Ok (Some status)) i none unfaulty = (neither (differs status) false none).0
  one_clean (Ok None) i none unfaulty = tt
  one_clean (Err e) i none unfaulty = absurd (cc)

  -- of a part of the considered entries
  part_clean : (q : Query T U) (es : List IndexEntry) (i : ℕ) (part : List IndexEntry) → list_any found_difference (records_in q es i part) ≡ false → faults_in q es part ≡ []
      → All (λ e. HasNoDifference (verdict q es e)) part
  part_clean q es i [] none unfaulty = All-nil (λ d. HasNoDifference (verdict q es d))
  part_clean q es i (e ∷ rest) none unfaulty =
      let halves = neither _ _ (sym (list_any-append found_difference (record_by i (verdict q es e)) (records_in q es (i + 1) rest)) ∙ none) in
      let faults = no_option _ _ unfaulty in
      All-cons (λ d. HasNoDifference (verdict q es d)) e rest (one_clean (verdict q es e) i halves.0 faults.0) (part_clean q es (i + 1) rest halves.1 faults.1)

  -- of all considered entries
  complete_clean : (q : Query T U) (index : State) (visits : List (Visit T U)) (o : Outcome) → list_any is_difference visits ≡ false → IsComplete q index (map finding_of visits) o
      → All (λ e. HasNoDifference (verdict q (considered_entries q index) e)) (considered_entries q index)
  complete_clean q index visits o none complete =
      part_clean q (considered_entries q index) (start_of q index) (considered_entries q index)
      (ap (list_any found_difference) (sym complete.records) ∙ any_mapped finding_of found_difference visits ∙ none)
      (first_none _ complete.no_fault)

  met_clean : (q : Query T U) (index : State) (beside : Beside) (visits : List (Visit T U)) (answer : Result Outcome Error) (r : Report) → IsTrue q.modelled → IsStatusReport q index [] answer visits → IsReport beside visits answer r → r.dirty ≡ false
      → All (λ e. HasNoDifference (verdict q (considered_entries q index) e)) (considered_entries q index)
  met_clean q index beside visits answer r modelled met report clean =
      let complete = subst (λ a. IfOk a (λ o. o.interrupted ≡ false → IsComplete q index (map finding_of met.more) o)) report.outcome (met.complete modelled) in
      let none = (neither _ _ (sym report.dirty ∙ clean)).0 in
      let whole = complete (not_early r.outcome.interrupted (list_any is_difference visits) report.early none) in
      complete_clean q index visits r.outcome none (subst (λ vs. IsComplete q index (map finding_of vs) r.outcome) (sym met.grew) whole)

  met_nothing : (beside : Beside) (visits : List (Visit T U)) (answer : Result Outcome Error) (r : Report) → IsReport beside visits answer r → r.dirty ≡ false → is_anything beside ≡ false
  met_nothing beside visits answer r report clean = (neither _ _ (sym report.dirty ∙ clean)).1

  reported : (lines : Option LineStyle) (beside : Beside) (visits : List (Visit T U)) (answer : Result Outcome Error) (old : Option (List ℕ)) (r : Report) (new : Option (List ℕ)) → IsCommandEnd lines beside visits answer old (Ok r) new → IsReport beside visits answer r
  reported lines beside visits answer old r new (inl found) = found.1
  reported lines beside visits answer old r new (inr failed) = absurd failed

  run_nothing : (a : Asking T U) (q : Query T U) (index : State) (old : Option (List ℕ)) (r : Report) (new : Option (List ℕ)) → IsStatusRun a.may_find q a.may_return index a.settings old (Ok r) new → r.dirty ≡ false
      → IsNothingBeside a index
  run_nothing a q index old r new run clean =
      let report = reported a.settings.lines run.beside run.visits run.answer old r new run.ended in (run.beside, run.found, met_nothing run.beside run.visits run.answer r report clean)

  run_clean : (may_find : MayFind) (q : Query T U) (may : MayReturn U) (index : State) (s : Settings) (old : Option (List ℕ)) (r : Report) (new : Option (List ℕ)) → IsTrue q.modelled → IsStatusRun may_find q may index s old (Ok r) new → r.dirty ≡ false
      → NoneDiffers q index
  run_clean may_find q may index s old r new modelled run clean =
      met_clean q index run.beside run.visits run.answer r modelled run.computed.met (reported s.lines run.beside run.visits run.answer old r new run.ended) clean

  -- by what was seen of each entry
  pub clean_seen : (a : Asking T U) (bytes : List ℕ) (old new : Option (List ℕ)) → IsExit a bytes false old new → IsSeenClean a bytes
  unfolding IsCommandRun
  clean_seen a bytes old new exit =
      let read = exit.2.0 in
      let run = exit.2.1 in
      let q = a.query read.converting.filter (settings a.settings.options read.index) in
      let report = reported a.settings.lines run.beside run.visits run.answer old exit.0 new run.ended in (
        read,
        run_nothing a q read.index old exit.0 new run exit.1,
        ∥∥₁_map run.computed.seen (λ seen.
            (record { views = seen.views; allowed = seen.allowed }, met_clean (as_seen q seen.views) read.index run.beside run.visits run.answer exit.0 refl seen.report report exit.1)),
      )

  pub clean_law : (a : Asking T U) (bytes : List ℕ) → CleanLaw a bytes
  unfolding IsCommandRun
  clean_law a bytes modelled old new exit =
      let read = exit.2.0 in let asked = settings a.settings.options read.index in
      let q = a.query read.converting.filter asked in (
        read,
        run_nothing a q read.index old exit.0 new exit.2.1 exit.1,
        run_clean a.may_find q a.may_return read.index a.settings old exit.0 new (modelled read.converting.filter asked) exit.2.1 exit.1,
      )
