-- A complete status of a world's index has exactly the defined report.
use Rattle.std.proofs.Common.{◌≡◌, refl, sym, ap, subst, ◌∙◌, ℕ, zero, suc, ◌+◌, ◌-◌, Bool, true, false, List, [], ◌∷◌, ◌++◌, map, filter, length, Option, Some, None, option_map, Result, Ok, Err, All, slice_get, arith, append_assoc, length-append, if◌then◌else◌}
use Rattle.std.specs.List.{list_any}
use Rattle.std.proofs.lemmas.List.{map-append}
use Rattle.std.proofs.lemmas.List.Elements.{All-head, All-tail}
use Rattle.status_index.specs.Entries.{IndexEntry, index_entry}
use Rattle.status_index.specs.States.{entries_of, backing_of, index_of}
use Rattle.status_index.specs.Stretch.{is_under}
use Rattle.status_index.specs.declared.entry.Entry.{Entry}
use Rattle.status_index.specs.declared.entry.PathStorage.{PathStorage}
use Rattle.status_index.specs.declared.id.ObjectId.{ObjectId}
use Rattle.status_index.specs.declared.state.State.{State}
use Rattle.status_compare.specs.declared.error.Error.{Error}
use Rattle.status_call.specs.declared.index_as_worktree.types.Finding.{Finding}
use Rattle.status_call.specs.declared.index_as_worktree.types.Outcome.{Outcome}
use Rattle.status_call.specs.Considered.{considered, considered_start}
use Rattle.status_call.specs.Counts.{IsOutcome, ModelsReads}
use Rattle.status_call.specs.Query.{Query}
use Rattle.status_call.specs.Records.{record_by, records_in, records_of, verdict}
use Rattle.status_call.specs.StatusTheorem.{IsComplete}
use Rattle.status_call.specs.Visits.{Visit, finding_of, IsFaithful}
use Rattle.status_compare.specs.declared.compare.Comparer.{Comparer}
use Rattle.status_compare.specs.declared.compare.Comparer.TheVariants.{Hash, Fast}
use Rattle.status_world.specs.Reports.{RunStatus, Reported}
use Rattle.status_world.specs.StampedWorld.{StampedWorld, query_of, reported_by, report_of}
use Rattle.status_world.proofs.ChangedPaths.{reports_from}

-- ---- all entries are considered

all_under : (es : List IndexEntry) → filter (is_under []) es ≡ es
all_under [] = refl
all_under (e ∷ es) = ap (λ (l : List IndexEntry). e ∷ l) (all_under es)

either_way : (b : Bool) (xs ys : List IndexEntry) → xs ≡ ys → (if b then xs else ys) ≡ ys
either_way true xs ys same = same
either_way false xs ys same = refl

pub considered_all : (es : List IndexEntry) → considered [] es ≡ es
considered_all es = either_way (list_any (is_under []) es) (filter (is_under []) es) es (all_under es)

pub considered_first : (es : List IndexEntry) → considered_start [] es ≡ 0
considered_first [] = refl
considered_first (e ∷ es) = refl

-- ---- the records

abbrev RunVisit : Type 0
RunVisit = Visit (Option ObjectId) (Unit {0})

abbrev RunFinding : Type 0
RunFinding = Finding (Option ObjectId) (Unit {0})

-- The record of a report for a visit.
abbrev pub visited : RunVisit → Reported
visited v = record { entry_index = v.entry_index; path = v.path; status = v.status }

abbrev path_or : Option IndexEntry → List ℕ
path_or (Some e) = e.path
path_or None = []

get-mapped : (f : Entry → IndexEntry) (es : List Entry) (i : ℕ) → slice_get (map f es) i ≡ option_map f (slice_get es i)
get-mapped f [] i = refl
get-mapped f (e ∷ es) zero = refl
get-mapped f (e ∷ es) (suc i) = get-mapped f es i

get-behind : (done : List IndexEntry) (e : IndexEntry) (es : List IndexEntry) → slice_get (done ++ e ∷ es) (length done) ≡ Some e
get-behind [] e es = refl
get-behind (x ∷ done) e es = get-behind done e es

module _ (es : List IndexEntry) where
  abbrev with_path : RunFinding → Reported
  with_path f = record { entry_index = f.entry_index; path = path_or (slice_get es f.entry_index); status = f.status }

  visits_are : (entries : List Entry) (backing : PathStorage) → map (index_entry backing) entries ≡ es → (vs : List RunVisit) → All (IsFaithful entries backing) vs
      → map visited vs ≡ map with_path (map finding_of vs)
  visits_are entries backing same [] all = refl
  visits_are entries backing same (v ∷ vs) all =
      let here = All-head (IsFaithful entries backing) v vs all in
      let there : slice_get es v.entry_index ≡ Some (index_entry backing v.entry) =
      ap (λ (l : List IndexEntry). slice_get l v.entry_index) (sym same) ∙ get-mapped (index_entry backing) entries v.entry_index ∙ ap (option_map (index_entry backing)) here.entry in
      let path : v.path ≡ path_or (slice_get es v.entry_index) = here.path ∙ ap path_or (sym there) in
      ap (λ (p : List ℕ). record { entry_index = v.entry_index; path = p; status = v.status } ∷ map visited vs) path
      ∙ ap (λ (l : List Reported). with_path (finding_of v) ∷ l) (visits_are entries backing same vs (All-tail (IsFaithful entries backing) v vs all))

  one_record : (i : ℕ) (e : IndexEntry) → slice_get es i ≡ Some e → (v : Result (Option RunStatus) Error) → reported_by i e.path v ≡ map with_path (record_by i v)
  one_record i e there (Ok (Some status)) = ap (λ (p : List ℕ). record { entry_index = i; path = p; status = status } ∷ []) (ap path_or (sym there))
  one_record i e there (Ok None) = refl
  one_record i e there (Err fault) = refl

module _ (q : Query (Option ObjectId) (Unit {0})) where
  records_from : (es done rest : List IndexEntry) → es ≡ done ++ rest → reports_from (verdict q es) (length done) rest ≡ map (with_path es) (records_in q es (length done) rest)
  records_from es done [] same = refl
  records_from es done (e ∷ rest) same =
      let there : slice_get es (length done) ≡ Some e = ap (λ (l : List IndexEntry). slice_get l (length done)) same ∙ get-behind done e rest in
      let next : List IndexEntry = done ++ e ∷ [] in
      let long : length next ≡ length done + 1 = length-append done (e ∷ []) in
      let later : reports_from (verdict q es) (length done + 1) rest ≡ map (with_path es) (records_in q es (length done + 1) rest) =
      subst (λ n. reports_from (verdict q es) n rest ≡ map (with_path es) (records_in q es n rest)) long (records_from es next rest (same ∙ sym (append_assoc done (e ∷ []) rest))) in
      ap (λ (l : List Reported). l ++ reports_from (verdict q es) (length done + 1) rest) (one_record es (length done) e there (verdict q es e))
      ∙ ap (λ (l : List Reported). map (with_path es) (record_by (length done) (verdict q es e)) ++ l) later
      ∙ sym (map-append (with_path es) (record_by (length done) (verdict q es e)) (records_in q es (length done + 1) rest))

-- ---- the outcome

-- The reads of a run's comparer are modelled.
pub models_reads : (w : StampedWorld) (c : Comparer) → ModelsReads (query_of w c)
models_reads w Hash e n = refl
models_reads w Fast e n = refl

same_outcome : (w : StampedWorld) (c : Comparer) (o : Outcome) → o.interrupted ≡ false → IsOutcome (query_of w c) w.entries w.entries w.entries o → o ≡ (report_of w c).outcome
same_outcome w c o whole h i = record {
  entries_to_process = (h.to_process ∙ none_before) i;
  entries_processed = h.processed i;
  entries_skipped_by_common_prefix = (h.skipped_by_prefix ∙ ap (λ n. length w.entries - n) none_before) i;
  entries_skipped_by_pathspec = h.skipped_by_pathspec i;
  entries_skipped_by_entry_flags = h.skipped_by_flags i;
  symlink_metadata_calls = h.lstat_calls i;
  entries_to_update = h.to_update i;
  racy_clean = h.racy_clean i;
  worktree_bytes = h.bytes (models_reads w c) i;
  worktree_files_read = h.files (models_reads w c) i;
  odb_bytes = h.object_bytes (models_reads w c) i;
  odb_objects_read = h.objects (models_reads w c) i;
  interrupted = whole i;
}
  where
    none_before : length w.entries ≡ length w.entries - 0
    none_before = omega arith

-- ---- a complete status of the world's index

module _ (w : StampedWorld) (c : Comparer) (index : State) (same : index_of index ≡ w.entries) where
  abbrev q : Query (Option ObjectId) (Unit {0})
  q = query_of w c

  pub complete_records : (vs : List RunVisit) (o : Outcome) → IsComplete q index (map finding_of vs) o → All (IsFaithful (entries_of index) (backing_of index)) vs
      → map visited vs ≡ (report_of w c).records
  complete_records vs o complete faithful =
      let all : considered [] (index_of index) ≡ w.entries = considered_all (index_of index) ∙ same in
      let found : map finding_of vs ≡ records_in q w.entries 0 w.entries =
      complete.records
      ∙ ap (λ n. records_of q n (considered [] (index_of index))) (considered_first (index_of index))
      ∙ ap (records_of q 0) all in
      visits_are w.entries (entries_of index) (backing_of index) same vs faithful
      ∙ ap (map (with_path w.entries)) found
      ∙ sym (records_from q w.entries [] w.entries refl)

  pub complete_outcome : (found : List RunFinding) (o : Outcome) → IsComplete q index found o → o.interrupted ≡ false → o ≡ (report_of w c).outcome
  complete_outcome found o complete whole =
      let P : List IndexEntry → List IndexEntry → Type 0 = λ all es. IsOutcome q all es es o in
      same_outcome w c o whole
      (subst (λ es. P w.entries es) (considered_all (index_of index) ∙ same)
      (subst (λ all. P all (considered [] (index_of index))) same complete.outcome))
