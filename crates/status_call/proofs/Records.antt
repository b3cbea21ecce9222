-- Records, faults and reads of parts of the considered entries, and of one entry.
use Rattle.std.proofs.Common.{◌≡◌, refl, sym, ap, ◌∙◌, ℕ, ◌+◌, min, true, false, ◌||◌, ◌==◌, List, [], ◌∷◌, ◌++◌, length, All, sum_by, Option, None, Ok, arith}
use Rattle.std.specs.List.{flat_map, enumerate_from, cons_option}
use Rattle.std.proofs.lemmas.Bool.{cond-true, cond-false, and_from, and_left, and_right, or_left, or_right, or_from, not_from_true, not_from_false}
use Rattle.std.proofs.lemmas.List.{append-nil}
use Rattle.std.proofs.lemmas.List.Concat.{flat_map-append}
use Rattle.std.proofs.lemmas.List.Elements.{All-head, All-tail, All-weaker, filter_map-append}
use Rattle.std.proofs.lemmas.List.Sums.{sum_by-append, sum_by-cons}
use Rattle.status_index.specs.Content.{saturate}
use Rattle.status_index.specs.Entries.{IndexEntry, stage_of}
use Rattle.status_compare.specs.declared.error.Error.{Error}
use Rattle.status_compare.specs.declared.read_data.Reads.{Reads}
use Rattle.status_compare.specs.Reads.{no_reads}
use Rattle.status_call.specs.declared.index_as_worktree.step.Decided.{Decided}
use Rattle.status_call.specs.declared.index_as_worktree.types.Finding.{Finding}
use Rattle.status_call.specs.Considered.{is_skipped, is_over, stages_from}
use Rattle.status_call.specs.Counts.{reads_in, reads_of, is_looked_at, ModelsReads}
use Rattle.status_call.specs.Decisions.{IsDecision}
use Rattle.status_call.specs.Query.{Query}
use Rattle.status_call.specs.Records.{verdict, records_in, record_by, faults_in, fault_by, conflict_status}
use Rattle.status_call.specs.Status.{status_of}
use Rattle.status_compare.specs.Reads.{plus_reads}
use Rattle.status_call.proofs.Stretch.{sum_by_none, enumerate-append}

pub same_reads : (a b : Reads) → a.bytes ≡ b.bytes → a.files ≡ b.files → a.object_bytes ≡ b.object_bytes → a.objects ≡ b.objects → a ≡ b
same_reads a b p f o k i = record { bytes = p i; files = f i; object_bytes = o i; objects = k i }

min_sum : (m a b : ℕ) → min m (a + b) ≡ min m (min m a + min m b)
min_sum m a b = omega arith

saturate_sum : (a b : ℕ) → saturate (a + b) ≡ saturate (saturate a + saturate b)
saturate_sum a b = min_sum 18446744073709551615 a b

module _ {T U : Type 0} (q : Query T U) where
  read_append : (f : IndexEntry → ℕ) (xs ys : List IndexEntry) → saturate (sum_by f (xs ++ ys)) ≡ saturate (saturate (sum_by f xs) + saturate (sum_by f ys))
  read_append f xs ys = ap saturate (sum_by-append f xs ys) ∙ saturate_sum (sum_by f xs) (sum_by f ys)

  pub reads-append : (xs ys : List IndexEntry) → reads_in q (xs ++ ys) ≡ plus_reads (reads_in q xs) (reads_in q ys)
  reads-append xs ys =
      same_reads (reads_in q (xs ++ ys)) (plus_reads (reads_in q xs) (reads_in q ys))
      (read_append (λ e. (reads_of q e).bytes) xs ys)
      (read_append (λ e. (reads_of q e).files) xs ys)
      (read_append (λ e. (reads_of q e).object_bytes) xs ys)
      (read_append (λ e. (reads_of q e).objects) xs ys)

module _ {T U : Type 0} (q : Query T U) (es : List IndexEntry) where
  pub records-append : (i : ℕ) (xs ys : List IndexEntry) → records_in q es i (xs ++ ys) ≡ records_in q es i xs ++ records_in q es (i + length xs) ys
  records-append i xs ys =
      ap (flat_map (λ (p : ℕ × IndexEntry). record_by p.0 (verdict q es p.1))) (enumerate-append i xs ys)
      ∙ flat_map-append (λ (p : ℕ × IndexEntry). record_by p.0 (verdict q es p.1)) (enumerate_from i xs) (enumerate_from (i + length xs) ys)

  pub faults-append : (xs ys : List IndexEntry) → faults_in q es (xs ++ ys) ≡ faults_in q es xs ++ faults_in q es ys
  faults-append xs ys = filter_map-append (λ (e : IndexEntry). fault_by (verdict q es e)) xs ys

  pub records_none : (xs : List IndexEntry) → All (λ e. verdict q es e ≡ Ok None) xs → (i : ℕ) → records_in q es i xs ≡ []
  records_none [] h i = refl
  records_none (x ∷ xs) h i =
      ap (λ (ys : List (Finding T U)). record_by i (verdict q es x) ++ ys) (records_none xs (All-tail (λ (e : IndexEntry). verdict q es e ≡ Ok None) x xs h) (i + 1))
      ∙ append-nil (record_by i (verdict q es x))
      ∙ ap (record_by i) (All-head (λ (e : IndexEntry). verdict q es e ≡ Ok None) x xs h)

  pub faults_none : (xs : List IndexEntry) → All (λ e. verdict q es e ≡ Ok None) xs → faults_in q es xs ≡ []
  faults_none [] h = refl
  faults_none (x ∷ xs) h =
      ap (λ (o : Option Error). cons_option o (faults_in q es xs)) (ap fault_by (All-head (λ (e : IndexEntry). verdict q es e ≡ Ok None) x xs h))
      ∙ faults_none xs (All-tail (λ (e : IndexEntry). verdict q es e ≡ Ok None) x xs h)

  -- A later stage of a conflict that is reported already.
  pub record IsLater (e : IndexEntry) : Type 0 where
    pub over : is_over q es e ≡ true
    pub staged : (stage_of e == 0) ≡ false

  pub later_verdict : (e : IndexEntry) → IsLater e → verdict q es e ≡ Ok None
  later_verdict e h = cond-true (is_skipped q e || is_over q es e) _ _ (or_right _ _ h.over)

  later_reads : (e : IndexEntry) → IsLater e → reads_of q e ≡ no_reads
  later_reads e h = cond-false (is_looked_at q e) _ _ (and_right _ _ h.staged)

  -- An entry, and the later stages of its conflict.
  module _ (x : IndexEntry) (xs : List IndexEntry) (later : All IsLater xs) where
    read_head : (f : Reads → ℕ) → f no_reads ≡ 0 → saturate (sum_by (λ e. f (reads_of q e)) (x ∷ xs)) ≡ saturate (0 + f (reads_of q x))
    read_head f none =
        let rest = sum_by_none (λ e. f (reads_of q e)) xs (All-weaker IsLater (λ e. f (reads_of q e) ≡ 0) (λ e h. ap f (later_reads e h) ∙ none) xs later) in
        let all : sum_by (λ e. f (reads_of q e)) (x ∷ xs) ≡ 0 + f (reads_of q x) = omega (arith, sum_by-cons (λ (e : IndexEntry). f (reads_of q e)) x xs, rest) in
        ap saturate all

    pub reads_head : reads_in q (x ∷ xs) ≡ plus_reads no_reads (reads_of q x)
    reads_head =
        same_reads (reads_in q (x ∷ xs)) (plus_reads no_reads (reads_of q x))
        (read_head (λ r. r.bytes) refl) (read_head (λ r. r.files) refl) (read_head (λ r. r.object_bytes) refl) (read_head (λ r. r.objects) refl)

  -- One entry that isn't a later stage.
  module _ (x : IndexEntry) (first : is_over q es x ≡ false) where
    pub skipped_verdict : is_skipped q x ≡ true → verdict q es x ≡ Ok None
    skipped_verdict h = cond-true (is_skipped q x || is_over q es x) _ _ (or_left _ _ h)

    pub skipped_reads : is_skipped q x ≡ true → reads_of q x ≡ no_reads
    skipped_reads h = cond-false (is_looked_at q x) _ _ (and_left _ _ (not_from_true _ h))

    module _ (kept : is_skipped q x ≡ false) where
      pub conflict_verdict : (stage_of x == 0) ≡ false → verdict q es x ≡ Ok (conflict_status (stages_from es x))
      conflict_verdict staged =
          cond-false (is_skipped q x || is_over q es x) _ _ (or_from _ _ kept first) ∙ cond-false (stage_of x == 0) _ _ staged

      pub status_verdict : (stage_of x == 0) ≡ true → verdict q es x ≡ status_of q x
      status_verdict plain =
          cond-false (is_skipped q x || is_over q es x) _ _ (or_from _ _ kept first) ∙ cond-true (stage_of x == 0) _ _ plain

      pub conflict_reads : (stage_of x == 0) ≡ false → reads_of q x ≡ no_reads
      conflict_reads staged = cond-false (is_looked_at q x) _ _ (and_right _ _ staged)

      module _ (plain : (stage_of x == 0) ≡ true) (d : Decided T U) (h : IsDecision q x d) where
        pub looked_at : is_looked_at q x ≡ true
        looked_at = and_from _ _ (not_from_false _ kept) plain

        pub decision_reads : ModelsReads q → reads_of q x ≡ d.reads
        decision_reads t = cond-true (is_looked_at q x) _ _ looked_at ∙ sym (h.reads t)
