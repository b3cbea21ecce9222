-- Lemmas on counts: their sums and bounds, those of one entry and of a part, and an outcome with them.
use Rattle.std.proofs.Common.{◌≡◌, refl, sym, ap, ◌∙◌, subst, ℕ, ◌+◌, ◌-◌, ◌≤◌, Bool, true, false, not, ◌&&◌, ◌==◌, List, ◌∷◌, ◌++◌, length, map, All, count_by, Option, Some, None, option_map, Ok, arith}
use Rattle.std.specs.declared.ops.Range.{Range}
use Rattle.std.proofs.lemmas.Bool.{and_from, and_left, and_right, or_left, or_right, or_parts, not_from_true, not_from_false}
use Rattle.std.proofs.lemmas.List.Elements.{All-weaker}
use Rattle.std.proofs.lemmas.List.Sums.{sum_by-append}
use Rattle.status_index.specs.Entries.{IndexEntry, stage_of}
use Rattle.status_compare.specs.declared.read_data.Reads.{Reads}
use Rattle.status_call.specs.declared.index_as_worktree.counts.Counts.{Counts}
use Rattle.status_call.specs.declared.index_as_worktree.counts.Progress.{Progress}
use Rattle.status_call.specs.declared.index_as_worktree.step.Decided.{Decided}
use Rattle.status_call.specs.declared.index_as_worktree.types.Conflict.{Conflict}
use Rattle.status_call.specs.declared.index_as_worktree.types.ConflictIndexEntry.{ConflictIndexEntry}
use Rattle.status_call.specs.declared.index_as_worktree.types.EntryStatus.TheVariants as statuses
use Rattle.status_call.specs.Conflicts.{conflict_of, kept_of, places_of}
use Rattle.status_call.specs.Considered.{is_flagged, is_excluded, is_skipped, is_over, stages_from}
use Rattle.status_call.specs.Counts.{IsOutcome, IsWithin, ModelsReads, calls_lstat, conflict_counts, counts_in, decided_counts, excluded_counts, flagged_counts, is_looked_at, is_racy_case, is_update, no_counts, outcome_of, plus_counts, processed_counts, reads_in}
use Rattle.status_call.specs.Decisions.{IsDecision}
use Rattle.status_call.specs.Query.{Query}
use Rattle.status_call.specs.Records.{verdict}
use Rattle.status_call.specs.Status.{case_of}
use Rattle.status_call.proofs.Records.{IsLater, conflict_verdict, later_verdict, looked_at, skipped_verdict, status_verdict}
use Rattle.status_call.proofs.Stretch.{weight, count_first}

pub same_counts : (a b : Counts) → a.processed ≡ b.processed → a.skipped_by_flags ≡ b.skipped_by_flags → a.skipped_by_pathspec ≡ b.skipped_by_pathspec → a.lstat_calls ≡ b.lstat_calls → a.racy_clean ≡ b.racy_clean → a.to_update ≡ b.to_update → a ≡ b
same_counts a b p f s l r u i = record {
  processed = p i;
  skipped_by_flags = f i;
  skipped_by_pathspec = s i;
  lstat_calls = l i;
  racy_clean = r i;
  to_update = u i;
}

pub IsWithin-same : (n : ℕ) (a b : Counts) → a ≡ b → IsWithin n b → IsWithin n a
IsWithin-same n a b e h =
    let P : Counts → Type 0 = λ k. IsWithin n k in
    subst P (sym e) h

pub IsWithin-sum : (m n k : ℕ) (a b : Counts) → m + n ≤ k → IsWithin m a → IsWithin n b → IsWithin k (plus_counts a b)
IsWithin-sum m n k a b l h w = record {
  processed = omega (arith, h.processed, w.processed);
  skipped_by_flags = omega (arith, h.skipped_by_flags, w.skipped_by_flags);
  skipped_by_pathspec = omega (arith, h.skipped_by_pathspec, w.skipped_by_pathspec);
  skipped = omega (arith, h.skipped, w.skipped);
  lstat_calls = omega (arith, h.lstat_calls, w.lstat_calls);
  racy_clean = omega (arith, h.racy_clean, w.racy_clean);
  to_update = omega (arith, h.to_update, w.to_update);
}

pub IsWithin-more : (m n : ℕ) (a : Counts) → m ≤ n → IsWithin m a → IsWithin n a
IsWithin-more m n a l h = record {
  processed = omega (arith, h.processed);
  skipped_by_flags = omega (arith, h.skipped_by_flags);
  skipped_by_pathspec = omega (arith, h.skipped_by_pathspec);
  skipped = omega (arith, h.skipped);
  lstat_calls = omega (arith, h.lstat_calls);
  racy_clean = omega (arith, h.racy_clean);
  to_update = omega (arith, h.to_update);
}

pub IsWithin-none : (n : ℕ) → IsWithin n no_counts
IsWithin-none n = record {
  processed = omega arith;
  skipped_by_flags = omega arith;
  skipped_by_pathspec = omega arith;
  skipped = omega arith;
  lstat_calls = omega arith;
  racy_clean = omega arith;
  to_update = omega arith;
}

pub weight_le : (b : Bool) → weight b ≤ 1
weight_le true = omega arith
weight_le false = omega arith

processed_within : (n flags pathspec : ℕ) → 1 ≤ n → flags + pathspec ≤ 1 → IsWithin n (processed_counts flags pathspec)
processed_within n flags pathspec l few = record {
  processed = l;
  skipped_by_flags = omega arith;
  skipped_by_pathspec = omega arith;
  skipped = omega arith;
  lstat_calls = omega arith;
  racy_clean = omega arith;
  to_update = omega arith;
}

pub decided_within : {T U : Type 0} (d : Decided T U) → IsWithin 1 (decided_counts d)
decided_within d = record {
  processed = omega arith;
  skipped_by_flags = omega arith;
  skipped_by_pathspec = omega arith;
  skipped = omega arith;
  lstat_calls = weight_le d.lstat_called;
  racy_clean = weight_le d.racy;
  to_update = weight_le _;
}

pub flagged_within : IsWithin 1 flagged_counts
flagged_within = processed_within 1 1 0 (omega arith) (omega arith)

pub excluded_within : IsWithin 1 excluded_counts
excluded_within = processed_within 1 0 1 (omega arith) (omega arith)

pub conflict_within : (n : ℕ) → 1 ≤ n → IsWithin n conflict_counts
conflict_within n l = processed_within n 0 0 l (omega arith)

module _ {T U : Type 0} (q : Query T U) (es : List IndexEntry) where
  no_update : (entries : List (Option ConflictIndexEntry)) (o : Option Conflict) → is_update {T = T} {U = U} (Ok (option_map (λ c. statuses.Conflict c entries) o)) ≡ false
  no_update entries None = refl
  no_update entries (Some c) = refl

  -- The tests by which an entry adds 1 to a count.
  abbrev is_processed : IndexEntry → Bool
  is_processed e = not (is_over q es e)

  abbrev is_left_by_flags : IndexEntry → Bool
  is_left_by_flags e = is_flagged e && not (is_over q es e)

  abbrev is_left_by_pathspec : IndexEntry → Bool
  is_left_by_pathspec e = not (is_flagged e) && is_excluded q e && not (is_over q es e)

  abbrev is_statted : IndexEntry → Bool
  is_statted e = is_looked_at q e && calls_lstat q e

  abbrev is_racy : IndexEntry → Bool
  is_racy e = is_looked_at q e && is_racy_case (case_of q e)

  abbrev is_updated : IndexEntry → Bool
  is_updated e = is_update (verdict q es e)

  count_append : (p : IndexEntry → Bool) (xs ys : List IndexEntry) → count_by p (xs ++ ys) ≡ count_by p xs + count_by p ys
  count_append p xs ys = sum_by-append (λ e. weight (p e)) xs ys

  pub counts-append : (xs ys : List IndexEntry) → counts_in q es (xs ++ ys) ≡ plus_counts (counts_in q es xs) (counts_in q es ys)
  counts-append xs ys =
      same_counts (counts_in q es (xs ++ ys)) (plus_counts (counts_in q es xs) (counts_in q es ys))
      (count_append is_processed xs ys) (count_append is_left_by_flags xs ys) (count_append is_left_by_pathspec xs ys)
      (count_append is_statted xs ys) (count_append is_racy xs ys) (count_append is_updated xs ys)

  -- The counts of one entry.
  abbrev pub one_counts : IndexEntry → Counts
  one_counts x = record {
    processed = weight (is_processed x);
    skipped_by_flags = weight (is_left_by_flags x);
    skipped_by_pathspec = weight (is_left_by_pathspec x);
    lstat_calls = weight (is_statted x);
    racy_clean = weight (is_racy x);
    to_update = weight (is_updated x);
  }

  -- An entry, and the later stages of its conflict.
  module _ (x : IndexEntry) (xs : List IndexEntry) (later : All (IsLater q es) xs) where
    count_head : (p : IndexEntry → Bool) → ((e : IndexEntry) → IsLater q es e → p e ≡ false) → count_by p (x ∷ xs) ≡ weight (p x)
    count_head p h = count_first p x xs (All-weaker (IsLater q es) (λ e. p e ≡ false) h xs later)

    pub counts_head : counts_in q es (x ∷ xs) ≡ one_counts x
    counts_head =
        same_counts (counts_in q es (x ∷ xs)) (one_counts x)
        (count_head is_processed (λ e h. not_from_true _ h.over))
        (count_head is_left_by_flags (λ e h. and_right _ _ (not_from_true _ h.over)))
        (count_head is_left_by_pathspec (λ e h. and_right _ _ (not_from_true _ h.over)))
        (count_head is_statted (λ e h. and_left _ _ (and_right _ _ h.staged)))
        (count_head is_racy (λ e h. and_left _ _ (and_right _ _ h.staged)))
        (count_head is_updated (λ e h. ap is_update (later_verdict q es e h)))

  -- One entry that isn't a later stage.
  module _ (x : IndexEntry) (first : is_over q es x ≡ false) where
    pub one-flagged : is_flagged x ≡ true → one_counts x ≡ flagged_counts
    one-flagged h =
        let out : is_looked_at q x ≡ false = and_left _ _ (not_from_true _ (or_left _ _ h)) in
        same_counts (one_counts x) flagged_counts
        (ap weight (not_from_false _ first))
        (ap weight (and_from _ _ h (not_from_false _ first)))
        (ap weight (and_left _ _ (and_left _ _ (not_from_true _ h))))
        (ap weight (and_left _ _ out))
        (ap weight (and_left _ _ out))
        (ap weight (ap is_update (skipped_verdict q es x first (or_left _ _ h))))

    pub one-excluded : is_flagged x ≡ false → is_excluded q x ≡ true → one_counts x ≡ excluded_counts
    one-excluded f h =
        let out : is_looked_at q x ≡ false = and_left _ _ (not_from_true _ (or_right _ _ h)) in
        same_counts (one_counts x) excluded_counts
        (ap weight (not_from_false _ first))
        (ap weight (and_left _ _ f))
        (ap weight (and_from _ _ (and_from _ _ (not_from_false _ f) h) (not_from_false _ first)))
        (ap weight (and_left _ _ out))
        (ap weight (and_left _ _ out))
        (ap weight (ap is_update (skipped_verdict q es x first (or_right _ _ h))))

    module _ (kept : is_skipped q x ≡ false) where
      pub one-conflict : (stage_of x == 0) ≡ false → one_counts x ≡ conflict_counts
      one-conflict staged =
          let out : is_looked_at q x ≡ false = and_right _ _ staged in
          let parts = or_parts (is_flagged x) (is_excluded q x) kept in
          let run = stages_from es x in
          same_counts (one_counts x) conflict_counts
          (ap weight (not_from_false _ first))
          (ap weight (and_left _ _ parts.0))
          (ap weight (and_left _ _ (and_right _ _ parts.1)))
          (ap weight (and_left _ _ out))
          (ap weight (and_left _ _ out))
          (ap weight (ap is_update (conflict_verdict q es x first kept staged) ∙ no_update (map (option_map kept_of) (places_of run)) (conflict_of run)))

      module _ (plain : (stage_of x == 0) ≡ true) (d : Decided T U) (h : IsDecision q x d) where
        pub one-decided : one_counts x ≡ decided_counts d
        one-decided =
            let parts = or_parts (is_flagged x) (is_excluded q x) kept in
            same_counts (one_counts x) (decided_counts d)
            (ap weight (not_from_false _ first))
            (ap weight (and_left _ _ parts.0))
            (ap weight (and_left _ _ (and_right _ _ parts.1)))
            (ap weight (ap (λ (b : Bool). b && calls_lstat q x) (looked_at q es x first kept plain d h) ∙ sym h.lstat_called))
            (ap weight (ap (λ (b : Bool). b && is_racy_case (case_of q x)) (looked_at q es x first kept plain d h) ∙ sym h.racy))
            (ap weight (ap is_update (status_verdict q es x first kept plain ∙ h.status)))

-- An outcome has the counts of the work.
module _ {T U : Type 0} (q : Query T U) (index es part : List IndexEntry) (p : Progress) (all : ℕ) (range : Range ℕ) where
  pub counted_outcome : range.end - range.start ≡ length es → all - (range.end - range.start) ≡ length index - length es → p.totals.counts ≡ counts_in q es part → (ModelsReads q → p.totals.reads ≡ reads_in q part) → IsOutcome q index es part (outcome_of p all range)
  counted_outcome process rest counts reads = record {
    to_process = process;
    skipped_by_prefix = rest;
    processed = ap (λ (k : Counts). k.processed) counts;
    skipped_by_flags = ap (λ (k : Counts). k.skipped_by_flags) counts;
    skipped_by_pathspec = ap (λ (k : Counts). k.skipped_by_pathspec) counts;
    lstat_calls = ap (λ (k : Counts). k.lstat_calls) counts;
    racy_clean = ap (λ (k : Counts). k.racy_clean) counts;
    to_update = ap (λ (k : Counts). k.to_update) counts;
    bytes = λ r. ap (λ (k : Reads). k.bytes) (reads r);
    files = λ r. ap (λ (k : Reads). k.files) (reads r);
    object_bytes = λ r. ap (λ (k : Reads). k.object_bytes) (reads r);
    objects = λ r. ap (λ (k : Reads). k.objects) (reads r);
  }
