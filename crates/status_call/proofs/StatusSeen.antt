-- The status theorem over any worktree: what was seen of the considered entries is one view of each, and by these views the work is
-- that of interfaces which are modelled.
use Rattle.std.proofs.Common.{◌≡◌, sym, ◌∙◌, subst, ℕ, ◌+◌, ◌-◌, ◌<◌, ◌≤◌, ◌^◌, ◌⊎◌, inl, inr, Bool, List, length, slice_index_or, All, arith, Result, Ok, Err}
use Rattle.std.proofs.Math.Logic.{∥∥₁_map, ∥∥₁_map₂}
use Rattle.std.proofs.lemmas.Grind.{merely}
use Rattle.std.proofs.lemmas.Bool.{cases_lt}
use Rattle.std.specs.declared.ops.Range.{Range}
use Rattle.status_index.specs.declared.state.State.{State}
use Rattle.status_index.specs.Entries.{IndexEntry}
use Rattle.status_index.specs.States.{entries_of, backing_of, index_of}
use Rattle.status_index.specs.Stretch.{part_of}
use Rattle.status_compare.specs.declared.error.Error.{Error}
use Rattle.status_call.specs.declared.index_as_worktree.counts.Progress.{Progress}
use Rattle.status_call.specs.declared.index_as_worktree.counts.Totals.{Totals}
use Rattle.status_call.specs.declared.index_as_worktree.types.Finding.{Finding}
use Rattle.status_call.specs.declared.index_as_worktree.types.Outcome.{Outcome}
use Rattle.status_call.specs.Counts.{outcome_of}
use Rattle.status_call.specs.Pieces.{IsDone, IsFaultSeen, IsFaulty, IsWorkSeen}
use Rattle.status_call.specs.Query.{Query}
use Rattle.status_call.specs.StatusSeen.{IsStatusSeen}
use Rattle.status_call.specs.StatusTheorem.{IsBeginning, considered_entries, start_of}
use Rattle.status_call.specs.Views.{Allows, View, Views, AllAllowed, SeesWithin, as_seen}
use Rattle.status_call.specs.Visits.{Visit, IsFaithful}
use Rattle.status_call.specs.WorkInOrder.{IsShortage, IsReportedWork, IsWorkStopped}
use Rattle.status_call.proofs.Stretch.{All-part_at, All-part_from}
use Rattle.status_call.proofs.StatusProof.{status_ok, status_err}
use Rattle.status_call.proofs.ViewLemmas.{allowed_along, fault_along, joined, joined_front, joined_back, specified_along}

module _ {T U : Type 0} (q : Query T U) (may : Allows U) where
  module _ (free : Views U) (freely : (e : IndexEntry) → may e (free e)) (start : ℕ) (es : List IndexEntry) (at : ℕ) (findings : List (Finding T U)) (t : Totals) (done : IsDone q may start es 0 at findings t) (seen : IsWorkSeen q may start es 0 at findings t) where
    -- The views of the entries that are done, and other views of the rest.
    abbrev filled : Views U → Views U
    filled rest = joined es done.index at seen.views rest

    -- By these views the work is done as specified.
    done_filled : (rest : Views U) → IsDone (as_seen q (filled rest)) may start es 0 at findings t
    done_filled rest =
        let agree : All (λ e. seen.views e ≡ filled rest e) (part_of es 0 at) =
        All-part_from es 0 at (λ e. seen.views e ≡ filled rest e) (λ k d l m o. sym (joined_front es done.index at seen.views rest k d m o)) in
        let specified = specified_along q seen.views (filled rest) start es 0 at findings t agree seen.specified in
        record {
          index = done.index;
          low = done.low;
          high = done.high;
          few = done.few;
          placed = done.placed;
          ascending = done.ascending;
          specified = λ _. specified;
          seen = merely (record { views = filled rest; allowed = allowed_along may seen.views (filled rest) (part_of es 0 at) agree seen.allowed; specified = specified });
        }

    allowed_front : (rest : Views U) (k : ℕ) (d : IndexEntry) → k < at → k < length es → may (slice_index_or es k d) (filled rest (slice_index_or es k d))
    allowed_front rest k d l m =
        let e = slice_index_or es k d in
        let P : View U → Type 0 = λ v. may e v in
        let own = All-part_at es 0 at (λ e. may e (seen.views e)) seen.allowed k d (omega arith) l m in
        subst P (sym (joined_front es done.index at seen.views rest k d l m)) own

    allowed_back : (rest : Views U) (k : ℕ) (d : IndexEntry) → at ≤ k → k < length es → may (slice_index_or es k d) (rest (slice_index_or es k d)) → may (slice_index_or es k d) (filled rest (slice_index_or es k d))
    allowed_back rest k d l m own =
        let e = slice_index_or es k d in
        let P : View U → Type 0 = λ v. may e v in
        subst P (sym (joined_back es done.index at seen.views rest k d l m)) own

    -- What wasn't reached has any view.
    free_allowed : AllAllowed may es (filled free)
    free_allowed k d m = elim (cases_lt k at) [
      | inl front ↦ allowed_front free k d front m
      | inr back ↦ allowed_back free k d back m (freely (slice_index_or es k d))
    ]

    module _ (x : Error) (inside : at < length es) (fault : IsFaultSeen q may es at x) where
      -- The view of the entry that has the fault, and any views of those after it.
      abbrev behind : Views U
      behind = joined es done.index (at + 1) fault.views free

      fault_allowed : AllAllowed may es (filled behind)
      fault_allowed k d m = elim (cases_lt k at) [
        | inl front ↦ allowed_front behind k d front m
        | inr back ↦ allowed_back behind k d back m (behind_allowed k d back m)
      ]
        where
          behind_allowed : (k : ℕ) (d : IndexEntry) → at ≤ k → k < length es → may (slice_index_or es k d) (behind (slice_index_or es k d))
          behind_allowed k d back m = elim (cases_lt k (at + 1)) [
            | inl here ↦
                let P : View U → Type 0 = λ v. may (slice_index_or es k d) v in
                let same : at ≡ k = omega arith in
                let own : may (slice_index_or es k d) (fault.views (slice_index_or es k d)) = rw (← same) (fault.allowed d) in
                subst P (sym (joined_front es done.index (at + 1) fault.views free k d here m)) own
            | inr far ↦
                let P : View U → Type 0 = λ v. may (slice_index_or es k d) v in
                subst P (sym (joined_back es done.index (at + 1) fault.views free k d far m)) (freely (slice_index_or es k d))
          ]

      fault_filled : IsFaulty (as_seen q (filled behind)) may es at x
      fault_filled =
          let here = fault_along q fault.views (filled behind) es at x (λ d.
          sym (joined_back es done.index at seen.views behind at d (omega arith) inside ∙ joined_front es done.index (at + 1) fault.views free at d (omega arith) inside)) fault.fault in
          record { specified = λ _. here; seen = merely (record { views = filled behind; allowed = λ d. fault_allowed at d inside; fault = here }) }

module _ {T U : Type 0} (q : Query T U) (may : Allows U) (free : Views U) (freely : (e : IndexEntry) → may e (free e)) (index : State) (has_flag : Bool) (old new : List (Visit T U)) where
  abbrev es : List IndexEntry
  es = considered_entries q index

  abbrev start : ℕ
  start = start_of q index

  abbrev Work : ℕ → Result Progress Error → Type 0
  Work workers result =
      IsReportedWork q may start es 0 (IsFaithful (entries_of index) (backing_of index)) has_flag workers (length es) old result new

  -- All considered entries were processed, or the interrupt flag was seen.
  pub seen_ok : (workers : ℕ) (p : Progress) (range : Range ℕ) (all : ℕ) → Work workers (Ok p) → range.end - range.start ≡ length es → all - (range.end - range.start) ≡ length (index_of index) - length es
      → all - (range.end - range.start) + length es < 2 ^ 64 → ∥ IsStatusSeen q may index old (Ok (outcome_of p all range)) new ∥₁
  seen_ok workers p range all work process rest room = ∥∥₁_map work.ended.done.seen by_views
    where
      by_views : IsWorkSeen q may start es 0 work.ended.place work.reported p.totals → IsStatusSeen q may index old (Ok (outcome_of p all range)) new
      by_views seen =
          let done = work.ended.done in
          let views = filled q may free freely start es work.ended.place work.reported p.totals done seen free in
          record {
            views = views;
            allowed = free_allowed q may free freely start es work.ended.place work.reported p.totals done seen;
            report = status_ok (as_seen q views) may index has_flag old new workers p range all (record {
              reported = work.reported;
              fed = work.fed;
              ended = record {
                place = work.ended.place;
                done = done_filled q may free freely start es work.ended.place work.reported p.totals done seen free;
                reached = work.ended.reached;
                uninterrupted = work.ended.uninterrupted;
              };
            }) process rest room;
          }

  -- The work ended.
  module _ (workers : ℕ) (x : Error) (work : Work workers (Err x)) where
    abbrev stop : IsWorkStopped q may start es 0 workers work.reported x
    stop = work.ended

    -- The work that ended in the same way by other views.
    stopped : (views : Views U) → AllAllowed may es views → IsDone (as_seen q views) may start es 0 stop.place stop.found stop.totals
        → ((work.reported ≡ stop.found) × (stop.place < length es) × IsFaulty (as_seen q views) may es stop.place x) ⊎ (IsShortage workers x × IsBeginning work.reported stop.found)
        → IsStatusSeen q may index old (Err x) new
    stopped views allowed done by = record {
      views = views;
      allowed = allowed;
      report = status_err (as_seen q views) may index has_flag old new workers x (record {
        reported = work.reported;
        fed = work.fed;
        ended = record { place = stop.place; found = stop.found; totals = stop.totals; done = done; by = by };
      });
    }

    abbrev Seen : Type 0
    Seen = IsWorkSeen q may start es 0 stop.place stop.found stop.totals

    by_shortage : IsShortage workers x × IsBeginning work.reported stop.found → Seen → IsStatusSeen q may index old (Err x) new
    by_shortage h seen =
        let views = filled q may free freely start es stop.place stop.found stop.totals stop.done seen free in
        stopped views (free_allowed q may free freely start es stop.place stop.found stop.totals stop.done seen)
        (done_filled q may free freely start es stop.place stop.found stop.totals stop.done seen free) (inr h)

    by_fault : (work.reported ≡ stop.found) × (stop.place < length es) × IsFaulty q may es stop.place x → Seen → IsFaultSeen q may es stop.place x → IsStatusSeen q may index old (Err x) new
    by_fault h seen fault =
        let rest = behind q may free freely start es stop.place stop.found stop.totals stop.done seen x h.1 fault in
        let views = filled q may free freely start es stop.place stop.found stop.totals stop.done seen rest in
        stopped views (fault_allowed q may free freely start es stop.place stop.found stop.totals stop.done seen x h.1 fault)
        (done_filled q may free freely start es stop.place stop.found stop.totals stop.done seen rest)
        (inl (h.0, h.1, fault_filled q may free freely start es stop.place stop.found stop.totals stop.done seen x h.1 fault))

    by_either : ((work.reported ≡ stop.found) × (stop.place < length es) × IsFaulty q may es stop.place x) ⊎ (IsShortage workers x × IsBeginning work.reported stop.found)
        → ∥ IsStatusSeen q may index old (Err x) new ∥₁
    by_either (inl h) = ∥∥₁_map₂ stop.done.seen h.2.seen (by_fault h)
    by_either (inr h) = ∥∥₁_map stop.done.seen (by_shortage h)

    pub seen_err : ∥ IsStatusSeen q may index old (Err x) new ∥₁
    seen_err = by_either stop.by

-- The same for an equal query, and by what more is allowed.
pub seen_along : {T U : Type 0} (q r : Query T U) (less may : Allows U) → r ≡ q → SeesWithin less may → (index : State) (old : List (Visit T U)) (result : Result Outcome Error) (new : List (Visit T U)) → IsStatusSeen r less index old result new → IsStatusSeen q may index old result new
seen_along q r less may same within index old result new h =
    let P : Query _ _ → Type 0 = λ x. IsStatusSeen x may index old result new in
    subst P same (record {
      views = h.views;
      allowed = λ k d m. within (slice_index_or (considered_entries r index) k d) (h.views (slice_index_or (considered_entries r index) k d)) (h.allowed k d m);
      report = h.report;
    })
