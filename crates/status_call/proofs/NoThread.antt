-- Only a comparer returns that a thread was refused.
use Rattle.std.proofs.Common.{◌≡◌, sym, ap, ◌∙◌, ℕ, ◌==◌, ◌||◌, Bool, true, false, cond, List, Option, Some, None, Result, Ok, Err}
use Rattle.status_index.specs.declared.fault.Fault.{Fault}
use Rattle.status_index.specs.declared.fault.Fault.TheVariants as faults
use Rattle.status_index.specs.BlobId.{id_kind}
use Rattle.status_index.specs.Content.{Content}
use Rattle.status_index.specs.declared.id.HashKind.{HashKind}
use Rattle.status_index.specs.declared.id.ObjectId.{ObjectId}
use Rattle.status_index.specs.declared.stat.Metadata.{Metadata}
use Rattle.status_index.specs.Entries.{IndexEntry, stage_of}
use Rattle.status_index.specs.StreamId.{first_bytes_id}
use Rattle.status_base.specs.Conversions.{Conversion, refused as turned_down, same, other}
use Rattle.status_compare.specs.Comparers.{worktree_result, reading_id, changed_result, hash_answer, size_decides, answer_without_id}
use Rattle.status_compare.specs.Reading.{converted_reading, node_reading}
use Rattle.status_compare.specs.declared.error.Error.{Error}
use Rattle.status_compare.specs.declared.error.Error.TheVariants.{SpawnThread}
use Rattle.status_compare.specs.Errors.{error_of}
use Rattle.status_call.specs.declared.index_as_worktree.types.EntryStatus.{EntryStatus}
use Rattle.status_call.specs.Considered.{is_skipped, is_over, stages_from}
use Rattle.status_call.specs.Query.{Query}
use Rattle.status_call.specs.Records.{verdict, conflict_status}
use Rattle.status_call.specs.Laws.{IdsLaw, SizesLaw}
use Rattle.status_call.specs.Status.{answer, status_of, readings, reads_link}
use Rattle.status_call.specs.StatusTable.{Row, gone, refused, in_submodule, added, unstamped, retyped, unchanged, failed, modified, to_update, IsTableRow}
use Rattle.status_call.specs.StatusTheorem.{NeverSpawns}
use Rattle.status_call.proofs.LawRows.{row_of}
use Rattle.status_call.proofs.LawTable.{status_table, case_in_submodule}

other_error : (f : Fault) → error_of f ≡ SpawnThread → ⊥
other_error faults.NotFound h = cc
other_error faults.NotADirectory h = cc
other_error faults.PermissionDenied h = cc
other_error faults.Interrupted h = cc
other_error faults.IllformedUtf8 h = cc
other_error faults.UnexpectedEnd h = cc
other_error faults.NotNormal h = cc
other_error faults.Memory h = cc
other_error (faults.Other n) h = cc

abbrev error_or : {A : Type 0} → Error → Result A Error → Error
error_or e (Ok _) = e
error_or e (Err x) = x

same_fault : {A : Type 0} (a b : Error) → ◌≡◌ {A = Result A Error} (Err a) (Err b) → a ≡ b
same_fault a b h = ap (error_or a) h

module _ {T U : Type 0} where
  abbrev err : Error → Result (Option (EntryStatus T U)) Error
  err x = Err x

  same_error : (a b : Error) → err a ≡ err b → a ≡ b
  same_error a b h = ap (error_or a) h

  no_submodule : (path : List ℕ) (r : Result (Option U) (List ℕ)) → answer {T = T} {U = U} path (Rattle.status_call.specs.Status.in_submodule r) ≡ Err SpawnThread → ⊥
  no_submodule path (Ok None) h = cc
  no_submodule path (Ok (Some u)) h = cc
  no_submodule path (Err text) h = cc

by_tests : {T U : Type 0} (a b : Bool) (s : Result (Option (EntryStatus T U)) Error) (c : Option (EntryStatus T U)) → (s ≡ Err SpawnThread → ⊥) → cond a (Ok None) (cond b s (Ok c)) ≡ Err SpawnThread → ⊥
by_tests true b s c f h = cc
by_tests false true s c f h = f h
by_tests false false s c f h = cc

module _ {T U : Type 0} (q : Query T U) (never : NeverSpawns q) where
  by_row : (e : IndexEntry) (r : Row) → IsTableRow q e r → status_of q e ≡ Err SpawnThread → ⊥
  by_row e gone i h = let k = sym ((status_table q e).gone_row i) ∙ h in cc
  by_row e refused i h = other_error i.0 (same_error {T = T} {U = U} _ _ (sym ((status_table q e).refused_row i.0 i.1) ∙ h))
  by_row e in_submodule i h = no_submodule {T = T} {U = U} e.path (q.submodule e) (sym (ap (answer e.path) (case_in_submodule q e i)) ∙ h)
  by_row e added i h = let k = sym ((status_table q e).added_row i) ∙ h in cc
  by_row e unstamped i h = let k = sym ((status_table q e).unstamped_row i) ∙ h in cc
  by_row e retyped i h = let k = sym ((status_table q e).retyped_row i.0 i.1) ∙ h in cc
  by_row e unchanged i h = let k = sym ((status_table q e).unchanged_row i) ∙ h in cc
  by_row e failed (n, (s, (x, (err, (p, f))))) h =
      never e n (f ∙ ap (λ (v : Error). Err v) (same_error {T = T} {U = U} err SpawnThread (sym ((status_table q e).failed_row n s x err p f) ∙ h)))
  by_row e modified (n, (s, (x, (c, (p, f, change))))) h = let k = sym ((status_table q e).modified_row n s x c p f change) ∙ h in cc
  by_row e to_update (n, (s, (p, f))) h = let k = sym ((status_table q e).update_row n s p f) ∙ h in cc

  -- No entry has that error.
  pub never_spawned : (es : List IndexEntry) (e : IndexEntry) → verdict q es e ≡ Err SpawnThread → ⊥
  never_spawned es e h =
      by_tests {T = T} {U = U} (is_skipped q e || is_over q es e) (stage_of e == 0) (status_of q e) (conflict_status ((stages_from es e))) (by_row e (row_of q e).0 (row_of q e).1) h

-- The comparers by ids and by sizes never return it.
no_result : {A : Type 0} (r : Result A Fault) → worktree_result r ≡ Err SpawnThread → ⊥
no_result (Ok x) h = cc
no_result {A} (Err f) h = other_error f (same_fault {A = A} (error_of f) SpawnThread h)

no_converted : (kind : HashKind) (len : ℕ) (content : Content) (c : Conversion) → reading_id kind (converted_reading len content c) ≡ Err SpawnThread → ⊥
no_converted kind len content same h = no_result (first_bytes_id kind content len) h
no_converted kind len content (other bytes) h = cc
no_converted kind len content (turned_down f) h = other_error f (same_fault {A = ObjectId} (error_of f) SpawnThread h)

no_reading : (kind : HashKind) (is_link : Bool) (conversion : Content → Conversion) (len : ℕ) (opened : Result Content Fault) (linked : Result (List ℕ) Fault)
    → reading_id kind (node_reading is_link conversion len opened linked) ≡ Err SpawnThread → ⊥
no_reading kind true conversion len opened (Ok bytes) h = cc
no_reading kind true conversion len opened (Err f) h = other_error f (same_fault {A = ObjectId} (error_of f) SpawnThread h)
no_reading kind false conversion len (Ok content) linked h = no_converted kind len content (conversion content) h
no_reading kind false conversion len (Err f) linked h = other_error f (same_fault {A = ObjectId} (error_of f) SpawnThread h)

no_change : (id : ObjectId) (r : Result ObjectId Error) → (r ≡ Err SpawnThread → ⊥) → changed_result id r ≡ Err SpawnThread → ⊥
no_change id (Ok new) f h = cc
no_change id (Err e) f h = f (ap (λ (x : Error). Err x) (same_fault {A = Option ObjectId} e SpawnThread h))

no_size : (b : Bool) (r : Result (Option ObjectId) Error) → (r ≡ Err SpawnThread → ⊥) → cond b (Ok (Some tt)) (answer_without_id r) ≡ Err SpawnThread → ⊥
no_size true r f h = cc
no_size false (Ok change) f h = cc
no_size false (Err e) f h = f (ap (λ (x : Error). Err x) (same_fault {A = Option (Unit {0})} e SpawnThread h))

module _ {T U : Type 0} (q : Query T U) (e : IndexEntry) (n : Metadata) where
  -- A comparison of an entry with its node never returns it.
  no_hash : hash_answer e (readings q e n).file ≡ Err SpawnThread → ⊥
  no_hash =
      no_change e.id (reading_id (id_kind e.id) (readings q e n).file)
      (no_reading (id_kind e.id) (reads_link q.symlink e.mode n.kind) (λ c. q.conversion c e.path) n.len (q.opened e) (q.linked e))

pub ids_law : {U : Type 0} (q : Query ObjectId U) → IdsLaw q
ids_law q is e n h = no_hash q e n (sym (ap (λ f. f e n.len (readings q e n)) is) ∙ h)

pub sizes_law : {U : Type 0} (q : Query (Unit {0}) U) → SizesLaw q
sizes_law q is e n h =
    no_size (size_decides e n.len) (hash_answer e (readings q e n).file) (no_hash q e n)
    (sym (ap (λ f. f e n.len (readings q e n)) is) ∙ h)
