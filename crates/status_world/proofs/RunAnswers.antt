-- The report or refusal of a run, by the result of the status call.
use Rattle.std.proofs.Common.{◌≡◌, ◌≢◌, ◌⊎◌, inl, inr, refl, sym, ap, subst, ◌∙◌, ℕ, true, false, List, [], ◌∷◌, ◌++◌, map, Option, Some, None, Result, Ok, Err}
use Rattle.bstr.specs.BStr.{bstr_bytes}
use Rattle.status_index.specs.Entries.{IndexEntry}
use Rattle.status_index.specs.States.{index_of}
use Rattle.status_index.specs.declared.id.ObjectId.{ObjectId}
use Rattle.status_index.specs.declared.stat.Metadata.{Metadata}
use Rattle.status_index.specs.declared.state.State.{State}
use Rattle.status_compare.specs.declared.error.Error.{Error}
use Rattle.status_compare.specs.declared.error.Error.TheVariants as errors
use Rattle.status_compare.specs.Comparers.{hash_answer, fast_answer, counts_after_hash, counts_after_fast}
use Rattle.status_call.specs.declared.index_as_worktree.recorder.Record.{Record}
use Rattle.status_call.specs.declared.index_as_worktree.types.Outcome.{Outcome}
use Rattle.status_call.specs.Considered.{considered}
use Rattle.status_call.specs.Query.{Query}
use Rattle.status_call.specs.RecorderVisits.{visit_of}
use Rattle.status_call.specs.Records.{first_fault}
use Rattle.status_call.specs.StatusTheorem.{IsStatusReport, NeverSpawns}
use Rattle.status_call.specs.Visits.{Visit}
use Rattle.status_call.proofs.NoThread.{ids_law, sizes_law}
use Rattle.status_compare.specs.declared.compare.Comparer.{Comparer}
use Rattle.status_world.specs.declared.world.event.Run.{Run}
use Rattle.status_world.specs.EventAnswers.{IsRunReport}
use Rattle.status_compare.specs.declared.compare.Comparer.TheVariants.{Hash, Fast}
use Rattle.status_world.specs.declared.world.event.Refusal.TheVariants as refusals
use Rattle.status_world.specs.Refusals.{fault_refusal}
use Rattle.status_world.specs.Reports.{Reported, record_value}
use Rattle.status_world.specs.StampedWorld.{StampedWorld, query_of, report_of}
use Rattle.status_compare.specs.NamedComparers.{with_new_id, without_new_id}
use Rattle.status_world.proofs.RunReports.{visited, considered_all, complete_records, complete_outcome}

abbrev RunRecord : Type 0
RunRecord = Record (Option ObjectId) (Unit {0})

abbrev RunVisits : Type 0
RunVisits = List (Visit (Option ObjectId) (Unit {0}))

-- A recorder's records are its visits.
recorded : (rs : List RunRecord) → map visited (map visit_of rs) ≡ map record_value rs
recorded [] = refl
recorded (r ∷ rs) = ap (λ (l : List Reported). record_value r ∷ l) (recorded rs)

-- ---- no comparer returns that a thread was refused

abbrev hash_query : StampedWorld → Query ObjectId (Unit {0})
hash_query w = record {
  modelled = true;
  stat_options = w.stat_options;
  symlink = true;
  executable_bit = w.executable_bit;
  timestamp = w.timestamp;
  lstat = (query_of w Hash).lstat;
  opened = (query_of w Hash).opened;
  linked = (query_of w Hash).linked;
  cached = (query_of w Hash).cached;
  prefix = [];
  included = (query_of w Hash).included;
  conversion = (query_of w Hash).conversion;
  blob = (query_of w Hash).blob;
  submodule = (query_of w Hash).submodule;
  compared = λ e _ m. hash_answer e m.file;
  counted = λ _ _ m k. Some (counts_after_hash m.file k);
}

with_id_kept : (r : Result (Option ObjectId) Error) → (r ≡ Err errors.SpawnThread → ⊥) → with_new_id r ≡ Err errors.SpawnThread → ⊥
with_id_kept (Ok change) f h = cc
with_id_kept (Err e) f h = f (ap (λ (x : Error). Err x) (ap (λ (r : Result (Option (Option ObjectId)) Error). error_or e r) h))
  where
    error_or : Error → Result (Option (Option ObjectId)) Error → Error
    error_or d (Ok x) = d
    error_or d (Err x) = x

abbrev size_query : StampedWorld → Query (Unit {0}) (Unit {0})
size_query w = record {
  modelled = true;
  stat_options = w.stat_options;
  symlink = true;
  executable_bit = w.executable_bit;
  timestamp = w.timestamp;
  lstat = (query_of w Fast).lstat;
  opened = (query_of w Fast).opened;
  linked = (query_of w Fast).linked;
  cached = (query_of w Fast).cached;
  prefix = [];
  included = (query_of w Fast).included;
  conversion = (query_of w Fast).conversion;
  blob = (query_of w Fast).blob;
  submodule = (query_of w Fast).submodule;
  compared = λ e n m. fast_answer e n m.file;
  counted = λ e n m k. Some (counts_after_fast e n m.file k);
}

without_id_kept : (r : Result (Option (Unit {0})) Error) → (r ≡ Err errors.SpawnThread → ⊥) → without_new_id r ≡ Err errors.SpawnThread → ⊥
without_id_kept (Ok change) f h = cc
without_id_kept (Err e) f h = f (ap (λ (x : Error). Err x) (ap (λ (r : Result (Option (Option ObjectId)) Error). error_or e r) h))
  where
    error_or : Error → Result (Option (Option ObjectId)) Error → Error
    error_or d (Ok x) = d
    error_or d (Err x) = x

pub never_spawns : (w : StampedWorld) (c : Comparer) → NeverSpawns (query_of w c)
never_spawns w Hash e n h = with_id_kept _ (ids_law (hash_query w) refl e n) h
never_spawns w Fast e n h = without_id_kept _ (sizes_law (size_query w) refl e n) h

-- ---- the two results

module _ (w : StampedWorld) (c : Comparer) (index : State) (same : index_of index ≡ w.entries) where
  abbrev q : Query (Option ObjectId) (Unit {0})
  q = query_of w c

  all_considered : considered [] (index_of index) ≡ w.entries
  all_considered = considered_all (index_of index) ∙ same

  -- An uninterrupted status has no fault, and its records and outcome are the report's.
  pub answered_report : (rs : List RunRecord) (o : Outcome) → o.interrupted ≡ false → IsStatusReport q index [] (Ok o) (map visit_of rs)
      → (first_fault q w.entries ≡ None) × (record { records = map record_value rs; outcome = o } ≡ report_of w c)
  answered_report rs o whole met =
      let complete = met.complete refl whole in
      let visits : map visit_of rs ≡ met.more = met.grew in
      let records : map record_value rs ≡ (report_of w c).records =
      sym (recorded rs) ∙ ap (map visited) visits ∙ complete_records w c index same met.more o complete met.faithful in (
        subst (λ es. first_fault q es ≡ None) all_considered complete.no_fault,
        λ i. record { records = records i; outcome = (complete_outcome w c index same _ o complete whole) i },
      )

  -- An error that isn't for memory or a thread is the first fault.
  first_error : (e : Error) (visits : RunVisits) → e ≢ errors.Memory → e ≢ errors.SpawnThread → IsStatusReport q index [] (Err e) visits → fault_refusal (first_fault q w.entries) ≡ Some (refusals.Run e)
  first_error e visits memory thread met = ap fault_refusal (subst (λ es. first_fault q es ≡ Some e) all_considered (met.fault refl memory thread).first)

module _ (w : StampedWorld) (run : Run) (index : State) (same : index_of index ≡ w.entries) where
  -- An error is out of memory, a refused thread unless the limit is 1, or the first fault.
  pub answered_error : (e : Error) (visits : RunVisits) → (run.thread_limit ≡ Some 1 → ◌≡◌ {A = Result Outcome Error} (Err e) (Err errors.SpawnThread) → ⊥) → IsStatusReport (query_of w run.comparer) index [] (Err e) visits
      → IsRunReport run w (Err (refusals.Run e))
  answered_error errors.Memory visits alone met = tt
  answered_error errors.SpawnThread visits alone met = λ one. alone one refl
  answered_error errors.IllformedUtf8 visits alone met = first_error w run.comparer index same errors.IllformedUtf8 visits (λ h. cc) (λ h. cc) met
  answered_error errors.Time visits alone met = first_error w run.comparer index same errors.Time visits (λ h. cc) (λ h. cc) met
  answered_error (errors.Io f) visits alone met = first_error w run.comparer index same (errors.Io f) visits (λ h. cc) (λ h. cc) met
  answered_error (errors.Find f) visits alone met = first_error w run.comparer index same (errors.Find f) visits (λ h. cc) (λ h. cc) met
  answered_error (errors.SubmoduleStatus path text) visits alone met = first_error w run.comparer index same (errors.SubmoduleStatus path text) visits (λ h. cc) (λ h. cc) met
