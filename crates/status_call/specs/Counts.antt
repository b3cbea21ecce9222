-- Entries processed and skipped (not those over), `lstat` calls, racy entries, stats to update, modelled reads: of one
-- entry, of a part of the entries, and in an outcome.
use Rattle.std.specs.Prelude.{◌≡◌, ℕ, ◌+◌, ◌-◌, ◌≤◌, ◌==◌, Bool, true, false, not, ◌&&◌, List, length, count_by, sum_by, Option, Some, is_some, unwrap_or, Result, Ok, IsTrue, if◌then◌else◌}
use Rattle.std.specs.declared.ops.Range.{Range}
use Rattle.status_index.specs.Content.{saturate}
use Rattle.status_index.specs.declared.stat.Metadata.{Metadata}
use Rattle.status_index.specs.Entries.{IndexEntry, stage_of}
use Rattle.status_base.specs.LinkCheck.{LinkCheck, accepted, empty_path, not_normal, through_link, faulty, link_check}
use Rattle.status_compare.specs.declared.error.Error.{Error}
use Rattle.status_compare.specs.Reads.{no_reads, plus_reads}
use Rattle.status_compare.specs.declared.read_data.Reads.{Reads}
use Rattle.status_call.specs.declared.index_as_worktree.types.EntryStatus.{EntryStatus}
use Rattle.status_call.specs.declared.index_as_worktree.types.EntryStatus.TheVariants as statuses
use Rattle.status_call.specs.declared.index_as_worktree.counts.Counts.{Counts}
use Rattle.status_call.specs.declared.index_as_worktree.counts.Totals.{Totals}
use Rattle.status_call.specs.declared.index_as_worktree.counts.Progress.{Progress}
use Rattle.status_call.specs.declared.index_as_worktree.step.Decided.{Decided}
use Rattle.status_call.specs.declared.index_as_worktree.types.Outcome.{Outcome}
use Rattle.status_call.specs.Considered.{is_flagged, is_excluded, is_skipped, is_over}
use Rattle.status_call.specs.Query.{Query}
use Rattle.status_call.specs.Records.{verdict}
use Rattle.status_call.specs.Status.{Case, compared, case_of, Found, present, found, readings}

-- The counts of no entries.
abbrev pub no_counts : Counts
no_counts = record {
  processed = 0;
  skipped_by_flags = 0;
  skipped_by_pathspec = 0;
  lstat_calls = 0;
  racy_clean = 0;
  to_update = 0;
}

abbrev pub plus_counts : Counts → Counts → Counts
plus_counts a b = record {
  processed = a.processed + b.processed;
  skipped_by_flags = a.skipped_by_flags + b.skipped_by_flags;
  skipped_by_pathspec = a.skipped_by_pathspec + b.skipped_by_pathspec;
  lstat_calls = a.lstat_calls + b.lstat_calls;
  racy_clean = a.racy_clean + b.racy_clean;
  to_update = a.to_update + b.to_update;
}

-- The totals of no entries: the counts of entries, and of the reads for them.
abbrev pub no_totals : Totals
no_totals = record { counts = no_counts; reads = no_reads }

abbrev pub plus_totals : Totals → Totals → Totals
plus_totals a b = record {
  counts = plus_counts a.counts b.counts;
  reads = plus_reads a.reads b.reads;
}

-- Each number is at most n, and so is the sum of the skipped entries.
pub record IsWithin (n : ℕ) (k : Counts) : Type 0 where
  pub processed : k.processed ≤ n
  pub skipped_by_flags : k.skipped_by_flags ≤ n
  pub skipped_by_pathspec : k.skipped_by_pathspec ≤ n
  pub skipped : k.skipped_by_flags + k.skipped_by_pathspec ≤ n
  pub lstat_calls : k.lstat_calls ≤ n
  pub racy_clean : k.racy_clean ≤ n
  pub to_update : k.to_update ≤ n

-- The link check accepts the path.
abbrev pub is_accepted : LinkCheck → Bool
is_accepted accepted = true
is_accepted empty_path = false
is_accepted (not_normal _) = false
is_accepted (through_link _) = false
is_accepted (faulty _) = false

-- Trusted and racy, without an executable change.
abbrev pub is_racy_case : {T U : Type 0} → Case T U → Bool
is_racy_case (compared x trusted racy s c) = not x && trusted && racy
is_racy_case _ = false

-- Whether the comparer is called.
abbrev pub is_compared_case : {T U : Type 0} → Case T U → Bool
is_compared_case (compared x trusted racy s c) = true
is_compared_case _ = false

abbrev pub is_update : {T U : Type 0} → Result (Option (EntryStatus T U)) Error → Bool
is_update (Ok (Some (statuses.NeedsUpdate s))) = true
is_update _ = false

module _ {T U : Type 0} (q : Query T U) where
  -- An entry that is compared with the worktree: of stage 0, and not skipped.
  abbrev pub is_looked_at : IndexEntry → Bool
  is_looked_at e = not (is_skipped q e) && stage_of e == 0

  -- `lstat` is called: the link check accepts the path, and the listings don't know it.
  abbrev pub calls_lstat : IndexEntry → Bool
  calls_lstat e = is_accepted (link_check (q.lstat e) e.path) && not (is_some (q.cached e))

  abbrev pub reads_of_found : IndexEntry → Found → Reads
  reads_of_found e (present n) = unwrap_or (q.counted e n.len (readings q e n) no_reads) no_reads
  reads_of_found e _ = no_reads

  -- The comparer's reads of an entry, if it is called and its reads are modelled.
  abbrev pub reads_of_case : IndexEntry → Reads
  reads_of_case e = if is_compared_case (case_of q e) then reads_of_found e (found q e)
      else no_reads

  -- The reads for an entry.
  abbrev pub reads_of : IndexEntry → Reads
  reads_of e = if is_looked_at e then reads_of_case e else no_reads

  -- The comparer's reads are modelled.
  abbrev pub ModelsReads : Type 0
  ModelsReads = (e : IndexEntry) (n : Metadata)
      → IsTrue (is_some (q.counted e n.len (readings q e n) no_reads))

-- The counts of an entry that isn't compared with the worktree.
abbrev pub processed_counts : ℕ → ℕ → Counts
processed_counts flags pathspec = record {
  processed = 1;
  skipped_by_flags = flags;
  skipped_by_pathspec = pathspec;
  lstat_calls = 0;
  racy_clean = 0;
  to_update = 0;
}

-- The counts of an entry that is.
abbrev pub decided_counts : {T U : Type 0} → Decided T U → Counts
decided_counts d = record {
  processed = 1;
  skipped_by_flags = 0;
  skipped_by_pathspec = 0;
  lstat_calls = if d.lstat_called then 1 else 0;
  racy_clean = if d.racy then 1 else 0;
  to_update = if is_update (Ok d.status) then 1 else 0;
}

-- The counts of an entry that its flags skip, of one that the pathspec skips, and of a conflict.
abbrev pub flagged_counts : Counts
flagged_counts = processed_counts 1 0

abbrev pub excluded_counts : Counts
excluded_counts = processed_counts 0 1

abbrev pub conflict_counts : Counts
conflict_counts = processed_counts 0 0

-- The counts of a part of the considered entries, `es` being all of them.
abbrev pub counts_in : {T U : Type 0} → Query T U → List IndexEntry → List IndexEntry → Counts
counts_in q es part = record {
  processed = count_by (λ e. not (is_over q es e)) part;
  skipped_by_flags = count_by (λ e. is_flagged e && not (is_over q es e)) part;
  skipped_by_pathspec = count_by
      (λ e. not (is_flagged e) && is_excluded q e && not (is_over q es e)) part;
  lstat_calls = count_by (λ e. is_looked_at q e && calls_lstat q e) part;
  racy_clean = count_by (λ e. is_looked_at q e && is_racy_case (case_of q e)) part;
  to_update = count_by (λ e. is_update (verdict q es e)) part;
}

-- The reads for a part of the considered entries: sums up to the greatest u64.
abbrev pub reads_in : {T U : Type 0} → Query T U → List IndexEntry → Reads
reads_in q part = record {
  bytes = saturate (sum_by (λ e. (reads_of q e).bytes) part);
  files = saturate (sum_by (λ e. (reads_of q e).files) part);
  object_bytes = saturate (sum_by (λ e. (reads_of q e).object_bytes) part);
  objects = saturate (sum_by (λ e. (reads_of q e).objects) part);
}

-- The outcome counts a part of the considered entries `es` of an index with the entries `all`.
pub record IsOutcome {T U : Type 0} (q : Query T U) (all es : List IndexEntry)
    (part : List IndexEntry) (o : Outcome) : Type 0 where
  pub to_process : o.entries_to_process ≡ length es
  pub skipped_by_prefix : o.entries_skipped_by_common_prefix ≡ length all - length es
  pub processed : o.entries_processed ≡ (counts_in q es part).processed
  pub skipped_by_flags : o.entries_skipped_by_entry_flags ≡ (counts_in q es part).skipped_by_flags
  pub skipped_by_pathspec : o.entries_skipped_by_pathspec
      ≡ (counts_in q es part).skipped_by_pathspec
  pub lstat_calls : o.symlink_metadata_calls ≡ (counts_in q es part).lstat_calls
  pub racy_clean : o.racy_clean ≡ (counts_in q es part).racy_clean
  pub to_update : o.entries_to_update ≡ (counts_in q es part).to_update
  pub bytes : ModelsReads q → o.worktree_bytes ≡ (reads_in q part).bytes
  pub files : ModelsReads q → o.worktree_files_read ≡ (reads_in q part).files
  pub object_bytes : ModelsReads q → o.odb_bytes ≡ (reads_in q part).object_bytes
  pub objects : ModelsReads q → o.odb_objects_read ≡ (reads_in q part).objects

-- The outcome of work on the range `considered` of an index with this many entries.
abbrev pub outcome_of : Progress → ℕ → Range ℕ → Outcome
outcome_of p entries considered = record {
  entries_to_process = considered.end - considered.start;
  entries_processed = p.totals.counts.processed;
  entries_skipped_by_common_prefix = entries - (considered.end - considered.start);
  entries_skipped_by_pathspec = p.totals.counts.skipped_by_pathspec;
  entries_skipped_by_entry_flags = p.totals.counts.skipped_by_flags;
  symlink_metadata_calls = p.totals.counts.lstat_calls;
  entries_to_update = p.totals.counts.to_update;
  racy_clean = p.totals.counts.racy_clean;
  worktree_bytes = p.totals.reads.bytes;
  worktree_files_read = p.totals.reads.files;
  odb_bytes = p.totals.reads.object_bytes;
  odb_objects_read = p.totals.reads.objects;
  interrupted = p.interrupted;
}

-- The number of skipped entries.
abbrev pub skipped_of : Outcome → ℕ
skipped_of o = o.entries_skipped_by_common_prefix + o.entries_skipped_by_pathspec
    + o.entries_skipped_by_entry_flags
