-- The next step: one entry that is skipped or decided, or a conflict.
use Rattle.std.proofs.Common.{◌≡◌, refl, sym, ap, ◌∙◌, subst, ℕ, ◌+◌, ◌<◌, ◌≤◌, inl, inr, true, false, ◌==◌, List, [], ◌∷◌, ◌++◌, length, take, drop, slice_index_or, All, Option, None, Ok, Err, IsTrue, arith}
use Rattle.std.proofs.lemmas.Bool.{and_left, and_right, not_from_true, or_left, or_right, ne_eqb, eq-eqb, le-ltb}
use Rattle.std.specs.List.{cons_option}
use Rattle.std.proofs.lemmas.List.{append-nil}
use Rattle.std.proofs.Math.Logic.{∥∥₁_map}
use Rattle.std.proofs.lemmas.Grind.{merely}
use Rattle.std.proofs.lemmas.List.Elements.{All-nil, All-cons, All-weaker}
use Rattle.std.proofs.lemmas.List.Folds.{length-prefix_len}
use Rattle.status_index.specs.Entries.{IndexEntry, IsIndex, stage_of}
use Rattle.status_index.specs.Stretch.{part_of}
use Rattle.status_compare.specs.declared.error.Error.{Error}
use Rattle.status_compare.specs.Reads.{no_reads}
use Rattle.status_call.specs.declared.index_as_worktree.step.Decided.{Decided}
use Rattle.status_call.specs.declared.index_as_worktree.step.Step.{Step}
use Rattle.status_call.specs.Conflicts.{is_in_run, run_at}
use Rattle.status_call.specs.Considered.{is_flagged, is_excluded, is_skipped, is_over, same_path, takes_over}
use Rattle.status_call.specs.Counts.{IsWithin, ModelsReads, conflict_counts, counts_in, decided_counts, excluded_counts, flagged_counts, no_totals, reads_in, reads_of}
use Rattle.status_call.specs.declared.index_as_worktree.counts.Counts.{Counts}
use Rattle.status_call.specs.Decisions.{IsDecided}
use Rattle.status_call.specs.Pieces.{IsFaultAt, IsFaultSeen, IsFaulty}
use Rattle.status_call.specs.Query.{Query}
use Rattle.status_call.specs.declared.index_as_worktree.types.Finding.{Finding}
use Rattle.status_call.specs.Records.{conflict_status, fault_by, faults_in, record_by, records_in, verdict}
use Rattle.status_call.specs.Steps.{IsFresh, IsStepOf, IsStepSeen, IsNext}
use Rattle.status_call.specs.Views.{Allows, Views, IsSeenDecided, as_seen}
use Rattle.status_compare.specs.Reads.{plus_reads}
use Rattle.status_call.proofs.IndexOrder.{same_back, same_from_path}
use Rattle.status_call.proofs.Counts.{IsWithin-same, IsWithin-more, conflict_within, counts_head, decided_within, excluded_within, flagged_within, one-conflict, one-decided, one-excluded, one-flagged, one_counts}
use Rattle.status_call.proofs.Records.{IsLater, conflict_reads, conflict_verdict, decision_reads, faults_none, later_verdict, reads_head, records_none, skipped_reads, skipped_verdict, status_verdict}
use Rattle.status_call.proofs.Stretch.{All-part_from, part_one, part_split}
use Rattle.status_call.proofs.ConflictRuns.{not_over, fresh_more, climb, count, inside, some, run_same, part_is_run, stages_are, later_over, run_apart}

-- The properties that a step has by itself.
pub record IsSelf {T U : Type 0} (s : Step T U) (len : ℕ) (counts : Counts) : Type 0 where
  pub long : s.len ≡ len
  pub counted : s.totals.counts ≡ counts

pub skipped_self : {T U : Type 0} (s : Step T U) (k : Counts) → s ≡ record { status = None; len = 1; totals = record no_totals { counts = k } } → IsSelf s 1 k
skipped_self {T} {U} s k h = record {
  long = ap (λ (x : Step T U). x.len) h;
  counted = ap (λ (x : Step T U). x.totals.counts) h;
}

-- The step of an entry and the later stages of its conflict.
module _ {T U : Type 0} (q : Query T U) (es : List IndexEntry) (x : IndexEntry) (xs : List IndexEntry) (later : All (IsLater q es) xs) where
  step_of : (part : List IndexEntry) (s : Step T U) → part ≡ x ∷ xs → verdict q es x ≡ Ok s.status → s.totals.counts ≡ one_counts q es x → (ModelsReads q → s.totals.reads ≡ plus_reads no_reads (reads_of q x)) → IsStepOf q es part s
  step_of part s same reported counted read =
      let quiet = All-weaker (IsLater q es) (λ e. verdict q es e ≡ Ok None) (later_verdict q es) xs later in
      record {
        records = λ j. ap (records_in q es j) same
            ∙ ap (λ (ys : List (Finding T U)). record_by j (verdict q es x) ++ ys) (records_none q es xs quiet (j + 1))
            ∙ append-nil (record_by j (verdict q es x)) ∙ ap (record_by j) reported;
        counts = counted ∙ sym (ap (counts_in q es) same ∙ counts_head q es x xs later);
        reads = λ t. read t ∙ sym (ap (reads_in q) same ∙ reads_head q es x xs later);
        clear = ap (faults_in q es) same
            ∙ ap (λ (o : Option Error). cons_option o (faults_in q es xs)) (ap fault_by reported)
            ∙ faults_none q es xs quiet;
      }

module _ (es : List IndexEntry) (index : IsIndex es) (i : ℕ) (x : IndexEntry) (l : i < length es) (here : (d : IndexEntry) → slice_index_or es i d ≡ x) where
  only_here : (k : ℕ) (d : IndexEntry) → i ≤ k → k < i + 1 → slice_index_or es k d ≡ x
  only_here k d m n =
      let e : k ≡ i = omega arith in
      rw e (here d)

  module _ {T U : Type 0} (q : Query T U) (fresh : IsFresh q (take i es) (drop i es)) where
    first : is_over q es x ≡ false
    first = not_over es index i x l here q fresh

    skipped_apart : is_skipped q x ≡ true → (r : IndexEntry) → takes_over q x r ≡ false
    skipped_apart h r = and_left _ _ (and_left _ _ (and_left _ _ (not_from_true _ h)))

    plain_apart : (stage_of x ≡ 0) → (r : IndexEntry) → takes_over q x r ≡ false
    plain_apart h r = and_left _ _ (and_right _ _ (le-ltb 0 (stage_of x) (omega arith)))

    -- The step of one entry, by its verdict.
    step_of_one : (s : Step T U) → verdict q es x ≡ Ok s.status → s.totals.counts ≡ one_counts q es x → (ModelsReads q → s.totals.reads ≡ plus_reads no_reads (reads_of q x)) → IsStepOf q es (x ∷ []) s
    step_of_one s reported counted read = step_of q es x [] (All-nil (IsLater q es)) (x ∷ []) s refl reported counted read

    skipped_step : (s : Step T U) → is_skipped q x ≡ true → s.status ≡ None → s.totals.counts ≡ one_counts q es x → s.totals.reads ≡ no_reads → IsStepOf q es (x ∷ []) s
    skipped_step s h none counted read =
        step_of_one s (skipped_verdict q es x first h ∙ ap Ok (sym none)) counted (λ _. read ∙ ap (plus_reads no_reads) (sym (skipped_reads q es x first h)))

    flagged_step : (s : Step T U) → IsSelf s 1 flagged_counts → s.status ≡ None → s.totals.reads ≡ no_reads → is_flagged x ≡ true → IsStepOf q es (x ∷ []) s
    flagged_step s self none read h =
        skipped_step s (or_left _ _ h) none (self.counted ∙ sym (one-flagged q es x first h)) read

    excluded_step : (s : Step T U) → IsSelf s 1 excluded_counts → s.status ≡ None → s.totals.reads ≡ no_reads → is_flagged x ≡ false → is_excluded q x ≡ true → IsStepOf q es (x ∷ []) s
    excluded_step s self none read f h =
        skipped_step s (or_right _ _ h) none (self.counted ∙ sym (one-excluded q es x first f h)) read

    module _ (kept : is_skipped q x ≡ false) where
      pub next_fault : (error : Error) → stage_of x ≡ 0 → IsDecided q x (Err error) → IsFaultAt q es i error
      next_fault error plain (inl e) =
          inl (λ d. ap (verdict q es) (here d) ∙ status_verdict q es x first kept (eq-eqb (stage_of x) 0 plain) ∙ e)
      next_fault error plain (inr e) = inr e

      decided_step : (s : Step T U) (d : Decided T U) → IsSelf s 1 (decided_counts d) → s.status ≡ d.status → s.totals.reads ≡ plus_reads no_reads d.reads → stage_of x ≡ 0 → IsDecided q x (Ok d) → IsStepOf q es (x ∷ []) s
      decided_step s d self same read plain h =
          let zero = eq-eqb (stage_of x) 0 plain in
          step_of_one s (status_verdict q es x first kept zero ∙ h.status ∙ ap Ok (sym same))
          (self.counted ∙ sym (one-decided q es x first kept zero d h))
          (λ r. read ∙ ap (plus_reads no_reads) (sym (decision_reads q es x first kept zero d h r)))

      -- x is the head of a conflict.
      module _ (staged : 0 < stage_of x) where
        abbrev three : 3 ≤ 3
        three = omega arith

        abbrev n : ℕ
        n = count es index i x l here 3 three staged

        staged_later : (k : ℕ) (d : IndexEntry) → i ≤ k → k < i + n → (stage_of (slice_index_or es k d) == 0) ≡ false
        staged_later k d m o =
            ne_eqb (stage_of (slice_index_or es k d)) 0 (λ e. omega (arith, climb es index i x l here k d m (omega (arith, inside es index i x l here 3 three staged)) (run_same es index i x l here 3 three staged k d m o)))

        later : All (IsLater q es) (part_of es (i + 1) (i + n))
        later =
            All-part_from es (i + 1) (i + n) (IsLater q es) (λ k d m o p. record {
              over = later_over es index i x l here 3 three staged q kept k d (omega arith) o;
              staged = staged_later k d (omega arith) o;
            })

        pub run_some : 0 < length (run_at es i x.path)
        run_some =
            omega (arith, some es index i x l here 3 three staged, length-prefix_len (is_in_run x.path) (take 3 (drop i es)))

        conflict_step : (s : Step T U) → IsSelf s (length (run_at es i x.path)) conflict_counts → s.status ≡ conflict_status (run_at es i x.path) → s.totals.reads ≡ no_reads → IsStepOf q es (part_of es i (i + s.len)) s
        conflict_step s self reported read =
            let long : s.len ≡ n = self.long ∙ length-prefix_len (is_in_run x.path) (take 3 (drop i es)) in
            let more = some es index i x l here 3 three staged in
            let zero = ne_eqb (stage_of x) 0 (λ e. omega arith) in
            let stages = stages_are es index i x l here 3 three staged ∙ part_is_run es index i x l here 3 three staged in
            let part : part_of es i (i + n) ≡ x ∷ part_of es (i + 1) (i + n) = part_split es i (i + 1) (i + n) (omega arith) (omega arith) ∙ ap (λ (ys : List IndexEntry). ys ++ part_of es (i + 1) (i + n)) (part_one es i x l here) in
            let same : part_of es i (i + s.len) ≡ x ∷ part_of es (i + 1) (i + n) = ap (λ (k : ℕ). part_of es i (i + k)) long ∙ part in
            step_of q es x (part_of es (i + 1) (i + n)) later (part_of es i (i + s.len)) s same
            (conflict_verdict q es x first kept zero ∙ ap (λ (ys : List IndexEntry). Ok (conflict_status ys)) stages ∙ ap Ok (sym reported))
            (self.counted ∙ sym (one-conflict q es x first kept zero))
            (λ _. read ∙ ap (plus_reads no_reads) (sym (conflict_reads q es x first kept zero)))

  -- The steps, by the models and by a view of each entry. An entry that isn't compared may have any view.
  module _ {T U : Type 0} (q : Query T U) (may : Allows U) (free : Views U) (freely : (e : IndexEntry) → may e (free e)) (fresh : IsFresh q (take i es) (drop i es)) where
    abbrev unseen : Query T U
    unseen = as_seen q free

    unlooked : (part : List IndexEntry) (s : Step T U) → IsStepOf unseen es part s → ∥ IsStepSeen q may es part s ∥₁
    unlooked part s step = merely (record { views = free; allowed = λ k d m. freely (slice_index_or part k d); step = step })

    one_next : (s : Step T U) (k : Counts) → IsSelf s 1 k → IsWithin 1 k → ((r : IndexEntry) → takes_over q x r ≡ false) → (IsTrue q.modelled → IsStepOf q es (x ∷ []) s) → ∥ IsStepSeen q may es (x ∷ []) s ∥₁ → IsNext q may es i s
    one_next s k self within apart reported seen =
        let long = self.long in
        let part : part_of es i (i + s.len) ≡ x ∷ [] = ap (λ (n : ℕ). part_of es i (i + n)) long ∙ part_one es i x l here in
        record {
          index = index;
          more = omega arith;
          inside = omega arith;
          few = IsWithin-more 1 s.len s.totals.counts (omega arith) (IsWithin-same 1 s.totals.counts k self.counted within);
          fresh = fresh_more es index i x l here q fresh (i + s.len) (omega arith) (λ j k d e m n o p u. rw (only_here j d m (omega arith)) (apart (slice_index_or es k e)));
          one_path = λ d. All-part_from es i (i + s.len) (λ r. same_path (slice_index_or es i d) r ≡ true) (λ j e m n o.
              same_from_path (slice_index_or es i d) (slice_index_or es j e) (ap (λ (y : IndexEntry). y.path) (here d ∙ sym (only_here j e m (omega arith)))));
          specified = λ t. rw part (reported t);
          seen = rw part seen;
        }

    pub next_flagged : (s : Step T U) → IsSelf s 1 flagged_counts → s.status ≡ None → s.totals.reads ≡ no_reads → is_flagged x ≡ true → IsNext q may es i s
    next_flagged s self none read h =
        one_next s flagged_counts self flagged_within (skipped_apart q fresh (or_left _ _ h))
        (λ _. flagged_step q fresh s self none read h) (unlooked (x ∷ []) s (flagged_step unseen fresh s self none read h))

    pub next_excluded : (s : Step T U) → IsSelf s 1 excluded_counts → s.status ≡ None → s.totals.reads ≡ no_reads → is_flagged x ≡ false → is_excluded q x ≡ true → IsNext q may es i s
    next_excluded s self none read f h =
        one_next s excluded_counts self excluded_within (skipped_apart q fresh (or_right _ _ h))
        (λ _. excluded_step q fresh s self none read f h) (unlooked (x ∷ []) s (excluded_step unseen fresh s self none read f h))

    module _ (kept : is_skipped q x ≡ false) where
      fault_seen : (error : Error) → stage_of x ≡ 0 → IsSeenDecided may q x (Err error) → IsFaultSeen q may es i error
      fault_seen error plain h =
          let P : IndexEntry → Type 0 = λ e. may e h.view in
          record {
            views = λ _. h.view;
            allowed = λ d. subst P (sym (here d)) h.allowed;
            fault = next_fault (as_seen q (λ _. h.view)) fresh kept error plain h.decided;
          }

      pub next_faulty : (error : Error) → stage_of x ≡ 0 → (IsTrue q.modelled → IsDecided q x (Err error)) → ∥ IsSeenDecided may q x (Err error) ∥₁ → IsFaulty q may es i error
      next_faulty error plain decided seen = record {
        specified = λ t. next_fault q fresh kept error plain (decided t);
        seen = ∥∥₁_map seen (fault_seen error plain);
      }

      pub next_decided : (s : Step T U) (d : Decided T U) → IsSelf s 1 (decided_counts d) → s.status ≡ d.status → s.totals.reads ≡ plus_reads no_reads d.reads → stage_of x ≡ 0 → (IsTrue q.modelled → IsDecided q x (Ok d)) → ∥ IsSeenDecided may q x (Ok d) ∥₁ → IsNext q may es i s
      next_decided s d self same read plain decided seen =
          one_next s (decided_counts d) self (decided_within d) (plain_apart q fresh plain)
          (λ t. decided_step q fresh kept s d self same read plain (decided t)) (∥∥₁_map seen seen_step)
        where
          seen_step : IsSeenDecided may q x (Ok d) → IsStepSeen q may es (x ∷ []) s
          seen_step h = record {
            views = λ _. h.view;
            allowed = All-cons (λ e. may e h.view) x [] h.allowed (All-nil (λ e. may e h.view));
            step = decided_step (as_seen q (λ _. h.view)) fresh kept s d self same read plain h.decided;
          }

      pub next_conflict : (staged : 0 < stage_of x) (s : Step T U) → IsSelf s (length (run_at es i x.path)) conflict_counts → s.status ≡ conflict_status (run_at es i x.path) → s.totals.reads ≡ no_reads → IsNext q may es i s
      next_conflict staged s self reported read =
          let three : 3 ≤ 3 = omega arith in
          let long : s.len ≡ count es index i x l here 3 three staged = self.long ∙ length-prefix_len (is_in_run x.path) (take 3 (drop i es)) in
          let more = some es index i x l here 3 three staged in
          let within = inside es index i x l here 3 three staged in
          record {
            index = index;
            more = omega arith;
            inside = omega arith;
            few = IsWithin-same s.len s.totals.counts conflict_counts self.counted (conflict_within s.len (omega arith));
            fresh = fresh_more es index i x l here q fresh (i + s.len) (omega arith) (λ j k d e m o p u v. run_apart es index i x l here 3 three staged q j k d e m (omega arith) (omega arith) v);
            one_path = λ d. All-part_from es i (i + s.len) (λ r. same_path (slice_index_or es i d) r ≡ true) (λ j e m o p.
                rw (here d) (same_back (slice_index_or es j e) x (run_same es index i x l here 3 three staged j e m (omega arith))));
            specified = λ _. conflict_step q fresh kept staged s self reported read;
            seen = unlooked (part_of es i (i + s.len)) s (conflict_step unseen fresh kept staged s self reported read);
          }
