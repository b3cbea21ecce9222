-- The comparison of an entry's content, by a view of it.
use Rattle.std.proofs.Common.{◌≡◌, ◌⊎◌, inl, inr, refl, sym, ap, ◌∙◌, subst, ℕ, List, Bool, Option, Some, None, unwrap_or, Result, Ok, Err}
use Rattle.status_index.specs.Content.{Content}
use Rattle.status_index.specs.declared.stat.Metadata.{Metadata}
use Rattle.status_index.specs.Entries.{IndexEntry}
use Rattle.status_base.specs.Conversions.{Conversion}
use Rattle.status_compare.specs.declared.error.Error.{Error}
use Rattle.status_compare.specs.declared.error.Error.TheVariants.{Memory}
use Rattle.status_compare.specs.declared.read_data.Reads.{Reads}
use Rattle.status_compare.specs.Reading.{Reading, Readings, IsSpecified, node_reading}
use Rattle.status_compare.specs.Reads.{HasRead, no_reads}
use Rattle.status_compare.specs.Seen.{IsBlobReading, IsComparisonSeen, IsFileReading}
use Rattle.status_call.specs.declared.index_as_worktree.content.Comparison.{Comparison}
use Rattle.status_call.specs.declared.index_as_worktree.inputs.Settings.{Settings}
use Rattle.status_call.specs.EntryParts.{IsComparison}
use Rattle.status_call.specs.EntrySights.{IsComparisonViewed, viewed}
use Rattle.status_call.specs.MayReturn.{MayReturn}
use Rattle.status_call.specs.Query.{Query}
use Rattle.status_call.specs.Status.{reads_link, readings}
use Rattle.status_call.specs.Views.{View, nothing_seen}

-- Counts that the comparer specifies, or otherwise those that it made.
read_or : (counted : Option Reads) (reads : Reads) → HasRead counted reads → reads ≡ unwrap_or counted reads
read_or (Some k) reads h = h
read_or None reads h = refl

module _ {T U : Type 0} (may : MayReturn U) (settings : Settings) (conversion : Content → List ℕ → Conversion) (answers : IndexEntry → ℕ → Readings → Result (Option T) Error)
    (counts : IndexEntry → ℕ → Readings → Reads → Option Reads) (e : IndexEntry) (n : Metadata) (is_link : Bool) (links : is_link ≡ reads_link settings.fs.symlink e.mode n.kind) where
  abbrev Files : Reading → Type 0
  Files = IsFileReading (may.opened e.path n) (may.linked e.path n) is_link (λ content. conversion content e.path) n.len

  abbrev Blobs : Result (List ℕ) Error → Type 0
  Blobs = IsBlobReading (may.found e.id)

  module _ (m : Readings) (file : Files m.file) (blob : Blobs m.blob) (reads : Reads) where
    abbrev view : View U
    view = record nothing_seen { opened = file.opened; linked = file.linked; blob = blob.found; reads = reads }

    abbrev query : Query T U
    query = viewed settings conversion answers counts view

    read : m ≡ readings query e n
    read =
        let files : m.file ≡ node_reading (reads_link settings.fs.symlink e.mode n.kind) (λ content. conversion content e.path) n.len file.opened file.linked =
        file.is ∙ ap (λ (b : Bool). node_reading b (λ content. conversion content e.path) n.len file.opened file.linked) links in
        λ k. record { file = files k; blob = blob.is k }

    viewed_by : (result : Result (Comparison T) Error) → IsComparison (answers e n.len (readings query e n)) (Some (unwrap_or (counts e n.len (readings query e n) no_reads) reads)) result → IsComparisonViewed may settings conversion answers counts e n result
    viewed_by result h = record { view = view; allowed = record { opened = file.may_open; linked = file.may_link; blob = blob.may_find }; compared = λ _. h }

  pub changed_view : (change : Option T) (reads : Reads) → IsComparisonSeen Files Blobs (answers e n.len) (counts e n.len) no_reads (Ok change) reads
      → IsComparisonViewed may settings conversion answers counts e n (Ok (record { change = change; reads = reads }))
  changed_view change reads s =
      let same = read s.readings s.file s.blob reads in
      viewed_by s.readings s.file s.blob reads (Ok (record { change = change; reads = reads }))
      (ap (answers e n.len) (sym same) ∙ sym (live s.answer), subst (λ (m : Readings). reads ≡ unwrap_or (counts e n.len m no_reads) reads) same (read_or (counts e n.len s.readings no_reads) reads s.counts))
    where
      live : {specified : Result (Option T) Error} → IsSpecified specified (Ok change) → Ok change ≡ specified
      live (inl h) = h
      live (inr h) = absurd (let x = h in cc)

  pub failed_view : (x : Error) (reads : Reads) → IsComparisonSeen Files Blobs (answers e n.len) (counts e n.len) no_reads (Err x) reads
      → IsComparisonViewed may settings conversion answers counts e n (Err x)
  failed_view x reads s = viewed_by s.readings s.file s.blob reads (Err x) (by_answer s.answer)
    where
      by_answer : IsSpecified (answers e n.len s.readings) (Err x) → (answers e n.len (readings (query s.readings s.file s.blob reads) e n) ≡ Err x) ⊎ (x ≡ Memory)
      by_answer (inl h) = inl (ap (answers e n.len) (sym (read s.readings s.file s.blob reads)) ∙ sym h)
      by_answer (inr h) = inr (let same : x ≡ Memory = cc in same)
