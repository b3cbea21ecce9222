-- Pieces in a row, reported one after another, and rounds of them.
use Rattle.std.proofs.Common.{◌≡◌, refl, sym, ap, ◌∙◌, subst, ℕ, ◌+◌, ◌-◌, ◌<◌, ◌≤◌, ◌^◌, inl, inr, Bool, true, false, List, [], ◌∷◌, ◌++◌, length, take, drop, All, arith, append_assoc, Option, Some, None, is_some, Result, Ok, Err}
use Rattle.std.proofs.lemmas.List.{take-append-drop, append-nil}
use Rattle.std.proofs.lemmas.List.Elements.{All-weaker}
use Rattle.status_index.specs.Entries.{IndexEntry, IsIndex}
use Rattle.status_compare.specs.declared.error.Error.{Error}
use Rattle.status_compare.specs.declared.error.Error.TheVariants.{Memory}
use Rattle.status_call.specs.declared.index_as_worktree.piece.End.{End}
use Rattle.status_call.specs.declared.index_as_worktree.piece.End.TheVariants.{Whole, Faulty}
use Rattle.status_call.specs.declared.index_as_worktree.piece.Piece.{Piece}
use Rattle.status_call.specs.declared.index_as_worktree.types.Finding.{Finding}
use Rattle.status_call.specs.declared.index_as_worktree.counts.Progress.{Progress}
use Rattle.status_call.specs.declared.index_as_worktree.counts.Totals.{Totals}
use Rattle.status_call.specs.Counts.{IsWithin, no_totals, plus_counts, plus_totals}
use Rattle.status_call.specs.Reporting.{Reports, IsPlacedIn}
use Rattle.status_call.specs.Pieces.{IsDone, IsFaulty, IsPiece, IsThrough, IsUninterrupted}
use Rattle.status_call.specs.PieceReporting.{IsCounted, IsPieceFed}
use Rattle.status_call.specs.Query.{Query}
use Rattle.status_call.specs.Rounds.{AreInRow, IsInRow, IsResult}
use Rattle.status_call.specs.Views.{Allows, Views, SeesWithin}
use Rattle.status_call.specs.Visits.{Visit}
use Rattle.status_call.specs.WorkInOrder.{IsShortage, IsWorkSoFar, IsReportedWork}
use Rattle.status_call.proofs.Pieces.{done_none, done_more, piece_within, sums_fit}
use Rattle.status_call.proofs.Feeding.{reports_none, reports_more}

none_of : {X : Type 0} (o : Option X) → is_some o ≡ false → o ≡ None
none_of None h = refl
none_of (Some x) h = cc

true_or_false : (b : Bool) → b ≡ true → b ≡ false → ⊥
true_or_false b h k = cc

module _ {T U : Type 0} (q : Query T U) (may : Allows U) (start : ℕ) (es : List IndexEntry) (from : ℕ) (faithful : Visit T U → Type 0) where
  -- Nothing is done yet.
  pub way_none : (free : Views U) → IsIndex es → (old : List (Visit T U)) → from ≤ length es → IsWorkSoFar q may start es from faithful from no_totals old old
  way_none free index old inside = record {
    reported = [];
    fed = reports_none faithful old;
    done = done_none q may free start es index from inside;
  }

  -- The findings of a piece are of entries of the index.
  pub piece_placed : (count at to : ℕ) (p : Piece T U) → start + length es ≤ count → IsPiece q may start es at to p → All (IsPlacedIn count) p.findings.items
  piece_placed count at to p h piece =
      All-weaker (λ f. (start + at ≤ f.entry_index) × (f.entry_index < start + p.reached)) (IsPlacedIn count) (λ f m. omega (arith, m.1, piece.done.high)) p.findings.items piece.done.placed

  -- The work couldn't go on.
  pub way_short : (interruptible : Bool) (workers at to : ℕ) (totals : Totals) (e : Error) (old now : List (Visit T U)) → IsShortage workers e
      → IsWorkSoFar q may start es from faithful at totals old now → IsReportedWork q may start es from faithful interruptible workers to old (Err e) now
  way_short interruptible workers at to totals e old now h way = record {
    reported = way.reported;
    fed = way.fed;
    ended = record { place = at; found = way.reported; totals = totals; done = way.done; by = inr (h, ([], append-nil way.reported)) };
  }

  -- A round that reported nothing.
  pub no_work : (free : Views U) → IsIndex es → (interruptible : Bool) (workers to : ℕ) (e : Error) (old : List (Visit T U)) → from ≤ length es → IsShortage workers e → IsReportedWork q may start es from faithful interruptible workers to old (Err e) old
  no_work free index interruptible workers to e old inside h =
      way_short interruptible workers from to no_totals e old old h (way_none free index old inside)

  module _ (interruptible : Bool) (workers end at : ℕ) (totals : Totals) (old now : List (Visit T U)) (way : IsWorkSoFar q may start es from faithful at totals old now) (p : Piece T U) (row : IsInRow q may interruptible start es at p) where
    -- The work that is done up to the end of a piece.
    done_upto : IsDone q may start es from p.reached (way.reported ++ p.findings.items) (plus_totals totals p.totals)
    done_upto = done_more q may start es from at p.reached way.reported p.findings.items totals p.totals way.done row.result.piece.done

    abbrev Fits : Progress → Type 0
    Fits o = IsWithin (2 ^ 64 - 1) (plus_counts totals.counts o.totals.counts)

    fits_upto : length es < 2 ^ 64 → IsWithin (2 ^ 64 - 1) (plus_counts totals.counts p.totals.counts)
    fits_upto few = sums_fit q may start es from at p.reached way.reported p.findings.items totals p.totals way.done row.result.piece.done few

    -- The counts of the piece fit.
    pub piece_fits : (o : Progress) → length es < 2 ^ 64 → IsCounted p o → Fits o
    piece_fits o few (inl h) = subst (λ (x : Progress). Fits x) (sym h.1) (fits_upto few)
    piece_fits o few (inr h) = subst (λ (x : Progress). Fits x) (sym h.1) (fits_upto few)

    -- The same, by the sum.
    done_sum : (o : Progress) (c : Totals) (seen : Bool) → o ≡ record { totals = p.totals; interrupted = seen } → c ≡ plus_totals totals o.totals → IsDone q may start es from p.reached (way.reported ++ p.findings.items) c
    done_sum o c seen same sums =
        subst (λ (x : Totals). IsDone q may start es from p.reached (way.reported ++ p.findings.items) x) (sym (sums ∙ ap (λ (x : Progress). plus_totals totals x.totals) same)) done_upto

    -- A whole piece was reported.
    pub way_more : (new : List (Visit T U)) (o : Progress) (c : Totals) → IsPieceFed faithful p now (Ok o) new → c ≡ plus_totals totals o.totals → o.interrupted ≡ false
        → (p.end ≡ Whole) × IsWorkSoFar q may start es from faithful p.reached c old new
    way_more new o c (inl h, fed) sums still = (
      h.0,
      record {
        reported = way.reported ++ p.findings.items;
        fed = reports_more faithful way.reported p.findings.items old now new way.fed fed;
        done = done_sum o c false h.1 sums;
      },
    )
    way_more new o c (inr h, fed) sums still =
        absurd (true_or_false o.interrupted (ap (λ (x : Progress). x.interrupted) h.1) still)

    -- The piece was cut.
    pub stop_cut : (new : List (Visit T U)) (o : Progress) (c : Totals) → IsPieceFed faithful p now (Ok o) new → c ≡ plus_totals totals o.totals → o.interrupted ≡ true
        → IsReportedWork q may start es from faithful interruptible workers end old (Ok (record { totals = c; interrupted = true })) new
    stop_cut new o c (inl h, fed) sums seen =
        absurd (true_or_false o.interrupted seen (ap (λ (x : Progress). x.interrupted) h.1))
    stop_cut new o c (inr h, fed) sums seen = record {
      reported = way.reported ++ p.findings.items;
      fed = reports_more faithful way.reported p.findings.items old now new way.fed fed;
      ended = record {
        place = p.reached;
        done = done_sum o c true h.1 sums;
        reached = λ still. absurd (cc);
        uninterrupted = λ still. absurd (subst (λ (e : End). IsUninterrupted e) h.0 (row.result.uninterrupted still));
      };
    }

    -- The piece ended at a fault, and its findings were reported.
    stop_fault : (new : List (Visit T U)) (x : Error) → p.end ≡ Faulty x → Reports faithful p.findings.items now new → IsReportedWork q may start es from faithful interruptible workers end old (Err x) new
    stop_fault new x faulty fed =
        let through : (p.reached < row.to) × IsFaulty q may es p.reached x = subst (λ (e : End). IsThrough q may es row.to p.reached e) faulty row.result.piece.through in
        record {
          reported = way.reported ++ p.findings.items;
          fed = reports_more faithful way.reported p.findings.items old now new way.fed fed;
          ended = record {
            place = p.reached;
            found = way.reported ++ p.findings.items;
            totals = plus_totals totals p.totals;
            done = done_upto;
            by = inl (refl, omega (arith, through.0, row.inside), through.1);
          };
        }

    -- The collector ran out of memory after n findings of the piece.
    stop_memory : (new : List (Visit T U)) (n : ℕ) → Reports faithful (take n p.findings.items) now new → IsReportedWork q may start es from faithful interruptible workers end old (Err Memory) new
    stop_memory new n fed = record {
      reported = way.reported ++ take n p.findings.items;
      fed = reports_more faithful way.reported (take n p.findings.items) old now new way.fed fed;
      ended = record {
        place = p.reached;
        found = way.reported ++ p.findings.items;
        totals = plus_totals totals p.totals;
        done = done_upto;
        by = inr (inl refl, (drop n p.findings.items, append_assoc way.reported (take n p.findings.items) (drop n p.findings.items) ∙ ap (λ (l : List (Finding T U)). way.reported ++ l) (take-append-drop n p.findings.items)));
      };
    }

    -- The work ended in a piece.
    pub stop_piece : (new : List (Visit T U)) (x : Error) → IsPieceFed faithful p now (Err x) new → IsReportedWork q may start es from faithful interruptible workers end old (Err x) new
    stop_piece new x (inl h) = stop_fault new x h.0 h.1
    stop_piece new x (inr h) = subst (λ (e : Error). IsReportedWork q may start es from faithful interruptible workers end old (Err e) new) (sym h.0) (stop_memory new h.1 h.2)

module _ {T U : Type 0} (q : Query T U) (may : Allows U) (start : ℕ) (es : List IndexEntry) (faithful : Visit T U → Type 0) (interruptible : Bool) (workers most from at to end : ℕ) (totals : Totals) (old now new : List (Visit T U)) (way : IsWorkSoFar q may start es from faithful at totals old now) where
  abbrev Round : Result Progress Error → Type 0
  Round result = IsReportedWork q may start es at faithful interruptible workers to now result new

  module _ (o : Progress) (round : Round (Ok o)) where
    -- The counts of a round fit.
    pub round_fits : length es < 2 ^ 64 → IsWithin (2 ^ 64 - 1) (plus_counts totals.counts o.totals.counts)
    round_fits few =
        sums_fit q may start es from at round.ended.place way.reported round.reported totals o.totals way.done round.ended.done few

    round_done : IsDone q may start es from round.ended.place (way.reported ++ round.reported) (plus_totals totals o.totals)
    round_done = done_more q may start es from at round.ended.place way.reported round.reported totals o.totals way.done round.ended.done

    -- A round reached its end.
    pub round_more : o.interrupted ≡ false → IsWorkSoFar q may start es from faithful to (plus_totals totals o.totals) old new
    round_more still = record {
      reported = way.reported ++ round.reported;
      fed = reports_more faithful way.reported round.reported old now new way.fed round.fed;
      done = subst (λ n. IsDone q may start es from n (way.reported ++ round.reported) (plus_totals totals o.totals)) (round.ended.reached still) round_done;
    }

    -- The interrupt flag was seen in it.
    pub round_cut : o.interrupted ≡ true → IsReportedWork q may start es from faithful interruptible most end old (Ok (record { totals = plus_totals totals o.totals; interrupted = true })) new
    round_cut seen = record {
      reported = way.reported ++ round.reported;
      fed = reports_more faithful way.reported round.reported old now new way.fed round.fed;
      ended = record {
        place = round.ended.place;
        done = round_done;
        reached = λ still. absurd (cc);
        uninterrupted = λ still. sym seen ∙ round.ended.uninterrupted still;
      };
    }

  more_workers : (e : Error) → workers ≤ most → IsShortage workers e → IsShortage most e
  more_workers e l (inl h) = inl h
  more_workers e l (inr h) = inr (h.0, omega (arith, h.1, l))

  -- It ended.
  pub round_stop : (e : Error) → workers ≤ most → Round (Err e) → IsReportedWork q may start es from faithful interruptible most end old (Err e) new
  round_stop e l round =
      let stop = round.ended in
      record {
        reported = way.reported ++ round.reported;
        fed = reports_more faithful way.reported round.reported old now new way.fed round.fed;
        ended = record {
          place = stop.place;
          found = way.reported ++ stop.found;
          totals = plus_totals totals stop.totals;
          done = done_more q may start es from at stop.place way.reported stop.found totals stop.totals way.done stop.done;
          by = elim stop.by [
            | inl h ↦ inl (ap (λ (l : List (Finding T U)). way.reported ++ l) h.0, h.1, h.2)
            | inr h ↦ inr (more_workers e l h.0, (h.1.0, append_assoc way.reported round.reported h.1.0 ∙ ap (λ (l : List (Finding T U)). way.reported ++ l) h.1.1))
          ];
        };
      }

-- A round, after some of its pieces were reported.
pub record IsMidRound {T U : Type 0} (q : Query T U) (may : Allows U) (interruptible : Bool) (start : ℕ) (es : List IndexEntry) (faithful : Visit T U → Type 0) (from to : ℕ) (totals : Totals) (old now : List (Visit T U)) (rest : List (Piece T U)) : Type 0 where
  pub at : ℕ
  pub way : IsWorkSoFar q may start es from faithful at totals old now
  pub rows : AreInRow q may interruptible start es to at rest

-- The first of the pieces that are left, and those after it.
pub row_next : {T U : Type 0} (q : Query T U) (may : Allows U) (interruptible : Bool) (start : ℕ) (es : List IndexEntry) (to at : ℕ) (rest ps : List (Piece T U)) (p : Piece T U) → rest ≡ p ∷ ps → AreInRow q may interruptible start es to at rest
    → IsInRow q may interruptible start es at p × (p.end ≡ Whole → AreInRow q may interruptible start es to p.reached ps)
row_next q may interruptible start es to at rest ps p e h = subst (λ l. AreInRow q may interruptible start es to at l) e h

-- The same work, for an equal flag and from an equal position.
pub work_as : {T U : Type 0} (q : Query T U) (may : Allows U) (start : ℕ) (es : List IndexEntry) (faithful : Visit T U → Type 0) (interruptible other : Bool) (workers from place to : ℕ) (old new : List (Visit T U)) (result : Result Progress Error)
    → other ≡ interruptible → place ≡ from → IsReportedWork q may start es place faithful other workers to old result new → IsReportedWork q may start es from faithful interruptible workers to old result new
work_as q may start es faithful interruptible other workers from place to old new result flag at work =
    subst (λ n. IsReportedWork q may start es n faithful interruptible workers to old result new) at
    (subst (λ b. IsReportedWork q may start es place faithful b workers to old result new) flag work)

-- A piece that was walked, by an equal query and by what may be seen, is a result.
pub result_of : {T U X : Type 0} (q r : Query T U) (may less : Allows U) (interrupt : Option X) (start : ℕ) (es : List IndexEntry) (at to : ℕ) (p : Piece T U) → r ≡ q → SeesWithin less may → IsPiece r less start es at to p
    → (interrupt ≡ None → IsUninterrupted p.end) → IsResult q may (is_some interrupt) start es at to p
result_of q r may less interrupt start es at to p same within piece uninterrupted = record {
  piece = piece_within q less may within es start at to p (subst (λ x. IsPiece x less start es at to p) same piece);
  uninterrupted = λ h. uninterrupted (none_of interrupt h);
}

-- The same in a row.
pub row_of : {T U X : Type 0} (q r : Query T U) (may less : Allows U) (interrupt : Option X) (start : ℕ) (es : List IndexEntry) (at to : ℕ) (p : Piece T U) → r ≡ q → SeesWithin less may → to ≤ length es → IsPiece r less start es at to p
    → (interrupt ≡ None → IsUninterrupted p.end) → IsInRow q may (is_some interrupt) start es at p
row_of q r may less interrupt start es at to p same within inside piece uninterrupted = record {
  to = to;
  inside = inside;
  result = result_of q r may less interrupt start es at to p same within piece uninterrupted;
}

-- A whole piece reached its end.
pub whole_reaches : {T U : Type 0} (q : Query T U) (may : Allows U) (start : ℕ) (es : List IndexEntry) (from to : ℕ) (p : Piece T U) → IsPiece q may start es from to p → p.end ≡ Whole → p.reached ≡ to
whole_reaches q may start es from to p piece whole = subst (λ (e : End). IsThrough q may es to p.reached e) whole piece.through
