-- The work that is done up to a position, and how it goes on.
use Rattle.std.proofs.Common.{◌≡◌, refl, sym, ap, ◌∙◌, ℕ, ◌+◌, ◌-◌, ◌^◌, ◌<◌, ◌≤◌, inl, inr, Bool, true, false, ◌||◌, List, [], ◌∷◌, ◌++◌, length, take, drop, slice_index_or, All, Option, Some, None, Ok, arith}
use Rattle.std.specs.List.{list_any}
use Rattle.std.proofs.lemmas.Bool.{cases_lt, and_left, and_right}
use Rattle.std.proofs.lemmas.List.Elements.{All-nil, All-cons, All-append, All-weaker}
use Rattle.std.proofs.Math.Logic.{∥∥₁_map, ∥∥₁_map₂}
use Rattle.std.proofs.lemmas.Grind.{merely}
use Rattle.std.proofs.lemmas.List.Folds.{list_any_none}
use Rattle.status_index.specs.Entries.{IndexEntry, IsIndex}
use Rattle.status_index.specs.Stretch.{part_of}
use Rattle.status_compare.specs.declared.error.Error.{Error}
use Rattle.status_compare.specs.declared.error.Error.TheVariants.{Memory}
use Rattle.status_compare.specs.declared.read_data.Reads.{Reads}
use Rattle.status_call.specs.declared.index_as_worktree.step.Step.{Step}
use Rattle.status_call.specs.declared.index_as_worktree.types.EntryStatus.{EntryStatus}
use Rattle.status_call.specs.declared.index_as_worktree.types.Finding.{Finding}
use Rattle.status_call.specs.declared.index_as_worktree.counts.Totals.{Totals}
use Rattle.status_call.specs.Considered.{same_path, takes_over}
use Rattle.status_call.specs.Counts.{IsWithin, counts_in, reads_in}
use Rattle.status_call.specs.declared.index_as_worktree.counts.Counts.{Counts}
use Rattle.status_call.specs.declared.index_as_worktree.piece.End.{End}
use Rattle.status_call.specs.declared.index_as_worktree.piece.End.TheVariants.{Whole, Interrupted, Faulty}
use Rattle.status_call.specs.declared.index_as_worktree.piece.Piece.{Piece}
use Rattle.status_call.specs.Pieces.{IsCut, IsAsSpecified, IsDone, IsFaultSeen, IsFaulty, IsPiece, IsThrough, IsWorkSeen}
use Rattle.status_call.specs.Query.{Query}
use Rattle.status_call.specs.Records.{record_by, records_in, faults_in}
use Rattle.status_call.specs.Steps.{IsFresh, IsNext, IsStepOf, IsStepSeen}
use Rattle.status_call.specs.Views.{Allows, Views, AllAllowed, SeesWithin, as_seen}
use Rattle.status_call.specs.Counts.{no_totals, plus_counts, plus_totals}
use Rattle.status_compare.specs.Reads.{plus_reads}
use Rattle.status_call.proofs.Counts.{IsWithin-more, IsWithin-none, IsWithin-sum, counts-append}
use Rattle.status_call.proofs.Records.{records-append, faults-append, reads-append}
use Rattle.status_call.proofs.ViewLemmas.{allowed_along, joined, joined_front, joined_back, specified_along}
use Rattle.status_call.proofs.Stretch.{All-part_from, All-take_at, All-drop_at, All-take_from, All-drop_from, All-part_at, AllPairs-append, length-part, part_none, part_split}

-- Of two, the first is false.
pub or_false : (a b c : Bool) → c ≡ (a || b) → a ≡ false → c ≡ b
or_false true b c e h = cc
or_false false b c e h = e

some_entry : (es : List IndexEntry) → 0 < length es → IndexEntry
some_entry [] h = absurd (omega arith)
some_entry (e ∷ es) h = e

module _ {T U : Type 0} where
  -- The entry's position is at least `low` and below `high`.
  abbrev IsPlaced : ℕ → ℕ → Finding T U → Type 0
  IsPlaced low high f = (low ≤ f.entry_index) × (f.entry_index < high)

  one_placed : (i low high : ℕ) (status : Option (EntryStatus T U)) → low ≤ i → i < high → All (IsPlaced low high) (record_by i (Ok status))
  one_placed i low high None l m = All-nil (IsPlaced low high)
  one_placed i low high (Some s) l m = All-cons (IsPlaced low high) (record { entry_index = i; status = s }) [] (l, m) (All-nil (IsPlaced low high))

  one_record : (i : ℕ) (status : Option (EntryStatus T U)) → length (record_by i (Ok status)) ≤ 1
  one_record i None = omega arith
  one_record i (Some s) = omega arith

-- If one value sees no more than another, its views are also views of the other.
module _ {T U : Type 0} (q : Query T U) (less more : Allows U) (within : SeesWithin less more) (es : List IndexEntry) where
  all_within : (part : List IndexEntry) (views : Views U) → AllAllowed less part views → AllAllowed more part views
  all_within part views h k d l = within (slice_index_or part k d) (views (slice_index_or part k d)) (h k d l)

  pub step_within : (part : List IndexEntry) (s : Step T U) → IsStepSeen q less es part s → IsStepSeen q more es part s
  step_within part s h = record { views = h.views; allowed = all_within part h.views h.allowed; step = h.step }

  work_within : (start from at : ℕ) (findings : List (Finding T U)) (t : Totals) → IsWorkSeen q less start es from at findings t → IsWorkSeen q more start es from at findings t
  work_within start from at findings t h = record { views = h.views; allowed = all_within (part_of es from at) h.views h.allowed; specified = h.specified }

  fault_within : (at : ℕ) (x : Error) → IsFaultSeen q less es at x → IsFaultSeen q more es at x
  fault_within at x h = record {
    views = h.views;
    allowed = λ d. within (slice_index_or es at d) (h.views (slice_index_or es at d)) (h.allowed d);
    fault = h.fault;
  }

  pub faulty_within : (at : ℕ) (x : Error) → IsFaulty q less es at x → IsFaulty q more es at x
  faulty_within at x h = record { specified = h.specified; seen = ∥∥₁_map h.seen (fault_within at x) }

  pub next_within : (i : ℕ) (s : Step T U) → IsNext q less es i s → IsNext q more es i s
  next_within i s h = record {
    index = h.index;
    more = h.more;
    inside = h.inside;
    few = h.few;
    fresh = h.fresh;
    one_path = h.one_path;
    specified = h.specified;
    seen = ∥∥₁_map h.seen (step_within (part_of es i (i + s.len)) s);
  }

  pub done_within : (start from at : ℕ) (findings : List (Finding T U)) (t : Totals) → IsDone q less start es from at findings t → IsDone q more start es from at findings t
  done_within start from at findings t h = record {
    index = h.index;
    low = h.low;
    high = h.high;
    few = h.few;
    placed = h.placed;
    ascending = h.ascending;
    specified = h.specified;
    seen = ∥∥₁_map h.seen (work_within start from at findings t);
  }

  through_within : (to reached : ℕ) (e : End) → IsThrough q less es to reached e → IsThrough q more es to reached e
  through_within to reached Whole h = h
  through_within to reached Interrupted h = h
  through_within to reached (Faulty x) h = (h.0, faulty_within reached x h.1)

  pub piece_within : (start from to : ℕ) (p : Piece T U) → IsPiece q less start es from to p → IsPiece q more start es from to p
  piece_within start from to p h = record {
    done = done_within start from p.reached p.findings.items p.totals h.done;
    through = through_within to p.reached p.end h.through;
  }

-- Memory may run out at any entry.
pub out_of_memory : {T U : Type 0} (q : Query T U) (may : Allows U) (free : Views U) → ((e : IndexEntry) → may e (free e)) → (es : List IndexEntry) (at : ℕ) → IsFaulty q may es at Memory
out_of_memory q may free freely es at = record {
  specified = λ _. inr refl;
  seen = merely (record { views = free; allowed = λ d. freely (slice_index_or es at d); fault = inr refl });
}

module _ {T U : Type 0} (q : Query T U) (may : Allows U) (free : Views U) (start : ℕ) (es : List IndexEntry) where
  -- Nothing is done yet.
  pub done_none : IsIndex es → (from : ℕ) → from ≤ length es → IsDone q may start es from from [] no_totals
  done_none index from l =
      let none = part_none es from in
      record {
        index = index;
        low = omega arith;
        high = l;
        few = IsWithin-none (from - from);
        placed = λ k d m. absurd (omega arith);
        ascending = λ i j d m n. absurd (omega arith);
        specified = λ _. none_specified q from none;
        seen = merely (record { views = free; allowed = rw none (All-nil (λ e. may e (free e))); specified = none_specified (as_seen q free) from none });
      }
    where
      none_specified : (r : Query T U) (n : ℕ) → part_of es n n ≡ [] → IsAsSpecified r start es n n [] no_totals
      none_specified r n none = record {
        records = sym (ap (records_in r es (start + n)) none);
        counts = sym (ap (counts_in r es) none);
        reads = λ _. sym (ap (reads_in r) none);
        clear = ap (faults_in r es) none;
      }

module _ {T U : Type 0} (q : Query T U) (may : Allows U) (start : ℕ) (es : List IndexEntry) where
  -- One step.
  pub done_next : (at : ℕ) (s : Step T U) → IsNext q may es at s → IsDone q may start es at (at + s.len) (record_by (start + at) (Ok s.status)) s.totals
  done_next at s h = record {
    index = h.index;
    low = omega arith;
    high = h.inside;
    few = IsWithin-more s.len (at + s.len - at) s.totals.counts (omega arith) h.few;
    placed = one_placed (start + at) (start + at) (start + (at + s.len)) s.status (omega arith) (omega (arith, h.more));
    ascending = λ i j d m n. absurd (omega (arith, one_record (start + at) s.status));
    specified = λ t. step_specified q (h.specified t);
    seen = ∥∥₁_map h.seen step_work;
  }
    where
      step_specified : (r : Query T U) → IsStepOf r es (part_of es at (at + s.len)) s → IsAsSpecified r start es at (at + s.len) (record_by (start + at) (Ok s.status)) s.totals
      step_specified r m = record {
        records = sym (m.records (start + at));
        counts = m.counts;
        reads = m.reads;
        clear = m.clear;
      }

      step_work : IsStepSeen q may es (part_of es at (at + s.len)) s → IsWorkSeen q may start es at (at + s.len) (record_by (start + at) (Ok s.status)) s.totals
      step_work m = record { views = m.views; allowed = m.allowed; specified = step_specified (as_seen q m.views) m.step }

  -- Work that is done is continued by work from there on.
  module _ (from at to : ℕ) (rs more : List (Finding T U)) (a b : Totals) (h : IsDone q may start es from at rs a) (k : IsDone q may start es at to more b) where
    pub done_more : IsDone q may start es from to (rs ++ more) (plus_totals a b)
    done_more = record {
      index = h.index;
      low = omega (arith, h.low, k.low);
      high = k.high;
      few = IsWithin-sum (at - from) (to - at) (to - from) a.counts b.counts (omega (arith, h.low, k.low)) h.few k.few;
      placed = All-append (IsPlaced (start + from) (start + to)) rs more
          (All-weaker (IsPlaced (start + from) (start + at)) (IsPlaced (start + from) (start + to)) (λ f p. (p.0, omega (arith, p.1, k.low))) rs h.placed)
          (All-weaker (IsPlaced (start + at) (start + to)) (IsPlaced (start + from) (start + to)) (λ f p. (omega (arith, p.0, h.low), p.1)) more k.placed);
      ascending = AllPairs-append (λ x y. x.entry_index < y.entry_index) rs more h.ascending k.ascending (λ i j d l m. omega (arith, (h.placed i d l).1, (k.placed j d m).0));
      specified = λ t. specified_more q (h.specified t) (k.specified t);
      seen = ∥∥₁_map₂ h.seen k.seen seen_more;
    }
      where
        specified_more : (q : Query T U) → IsAsSpecified q start es from at rs a → IsAsSpecified q start es at to more b → IsAsSpecified q start es from to (rs ++ more) (plus_totals a b)
        specified_more q m n =
            let xs = part_of es from at in
            let ys = part_of es at to in
            let split : part_of es from to ≡ xs ++ ys = part_split es from at to h.low k.low in
            let next : start + from + length xs ≡ start + at = omega (arith, length-part es from at h.high, h.low) in
            record {
              records = ap (λ (zs : List (Finding T U)). zs ++ more) m.records ∙ ap (λ (zs : List (Finding T U)). records_in q es (start + from) xs ++ zs) n.records
                  ∙ sym (ap (records_in q es (start + from)) split ∙ records-append q es (start + from) xs ys ∙ ap (λ (i : ℕ). records_in q es (start + from) xs ++ records_in q es i ys) next);
              counts = ap (λ (z : Counts). plus_counts z b.counts) m.counts ∙ ap (plus_counts (counts_in q es xs)) n.counts
                  ∙ sym (ap (counts_in q es) split ∙ counts-append q es xs ys);
              reads = λ r. ap (λ (z : Reads). plus_reads z b.reads) (m.reads r) ∙ ap (plus_reads (reads_in q xs)) (n.reads r)
                  ∙ sym (ap (reads_in q) split ∙ reads-append q xs ys);
              clear = ap (faults_in q es) split ∙ faults-append q es xs ys ∙ ap (λ zs. zs ++ faults_in q es ys) m.clear ∙ n.clear;
            }

        -- The views of both, as one view of each entry.
        seen_more : IsWorkSeen q may start es from at rs a → IsWorkSeen q may start es at to more b → IsWorkSeen q may start es from to (rs ++ more) (plus_totals a b)
        seen_more m n =
            let views : Views U = joined es h.index at m.views n.views in
            let front : All (λ e. m.views e ≡ views e) (part_of es from at) = All-part_from es from at (λ e. m.views e ≡ views e) (λ i d l o p. sym (joined_front es h.index at m.views n.views i d o p)) in
            let back : All (λ e. n.views e ≡ views e) (part_of es at to) = All-part_from es at to (λ e. n.views e ≡ views e) (λ i d l o p. sym (joined_back es h.index at m.views n.views i d l p)) in
            let all = All-append (λ e. may e (views e)) (part_of es from at) (part_of es at to) (allowed_along may m.views views (part_of es from at) front m.allowed) (allowed_along may n.views views (part_of es at to) back n.allowed) in
            record {
              views = views;
              allowed = rw (part_split es from at to h.low k.low) all;
              specified = specified_more (as_seen q views) (specified_along q m.views views start es from at rs a front m.specified) (specified_along q n.views views start es at to more b back n.specified);
            }

    -- Their counts together fit.
    pub sums_fit : length es < 2 ^ 64 → IsWithin (2 ^ 64 - 1) (plus_counts a.counts b.counts)
    sums_fit l = IsWithin-more (to - from) (2 ^ 64 - 1) (plus_counts a.counts b.counts) (omega (arith, k.high)) done_more.few

  -- A step doesn't go past a cut.
  pub not_past : (to at : ℕ) (s : Step T U) → IsCut es to → at < to → to ≤ length es → IsNext q may es at s → at + s.len ≤ to
  not_past to at s cut l m h =
      elim (cases_lt to (at + s.len)) [
        | inr low ↦ low
        | inl past ↦
            let d = some_entry es (omega arith) in
            let e = slice_index_or es at d in
            let same : same_path e (slice_index_or es to d) ≡ true = All-part_at es at (at + s.len) (λ r. same_path e r ≡ true) (h.one_path d) to d (omega arith) past (omega (arith, h.inside)) in
            let apart = All-take_at (λ e. All (λ r. same_path e r ≡ false) (drop to es)) es to cut at d l (omega arith) in
            let other : same_path e (slice_index_or es to d) ≡ false = All-drop_at (λ r. same_path e r ≡ false) es to apart to d (omega arith) (omega (arith, h.inside)) in
            cc
      ]

-- At a cut no entry takes over one after it.
pub fresh_cut : {T U : Type 0} (q : Query T U) (es : List IndexEntry) (k : ℕ) → IsCut es k → IsFresh q (take k es) (drop k es)
fresh_cut q es k cut =
    All-drop_from (λ r. list_any (λ d. takes_over q d r) (take k es) ≡ false) es k (λ j f l m.
    let r = slice_index_or es j f in
    list_any_none (λ d. takes_over q d r) (take k es) (All-take_from (λ d. takes_over q d r ≡ false) es k (λ i d n o.
    let apart = All-take_at (λ e. All (λ r. same_path e r ≡ false) (drop k es)) es k cut i d n o in
    let other : same_path (slice_index_or es i d) r ≡ false = All-drop_at (λ r. same_path (slice_index_or es i d) r ≡ false) es k apart j f l m in
    and_left _ _ (and_left _ _ (and_right _ _ other)))))

-- The state of the work on a piece.
pub record IsWorking {T U : Type 0} (q : Query T U) (may : Allows U) (start : ℕ) (es : List IndexEntry) (from to at : ℕ) (findings : List (Finding T U)) (totals : Totals) : Type 0 where
  pub done : IsDone q may start es from at findings totals
  pub fresh : IsFresh q (take at es) (drop at es)
  pub upto : at ≤ to
