-- The part of a piece that was reported to a collector.
use Rattle.std.specs.Prelude.{◌≡◌, ◌⊎◌, ℕ, true, false, List, take, Result, Ok, Err}
use Rattle.status_compare.specs.declared.error.Error.{Error}
use Rattle.status_compare.specs.declared.error.Error.TheVariants.{Memory}
use Rattle.status_call.specs.declared.index_as_worktree.piece.End.TheVariants.{Whole, Interrupted, Faulty}
use Rattle.status_call.specs.declared.index_as_worktree.piece.Piece.{Piece}
use Rattle.status_call.specs.declared.index_as_worktree.counts.Progress.{Progress}
use Rattle.status_call.specs.Reporting.{Reports}
use Rattle.status_call.specs.Visits.{Visit}

-- The counts of a piece, and whether the interrupt flag was seen in it.
abbrev pub IsCounted : {T U : Type 0} → Piece T U → Progress → Type 0
IsCounted p o =
    ((p.end ≡ Whole) × (o ≡ record { totals = p.totals; interrupted = false }))
    ⊎ ((p.end ≡ Interrupted) × (o ≡ record { totals = p.totals; interrupted = true }))

-- All findings are reported of a piece that was whole or cut, and of one that ended at a fault. If memory runs out, the first n
-- of them are.
abbrev pub IsPieceFed : {T U : Type 0} → (Visit T U → Type 0) → Piece T U → List (Visit T U)
    → Result Progress Error → List (Visit T U) → Type 0
IsPieceFed faithful p old (Ok o) new = IsCounted p o × Reports faithful p.findings.items old new
IsPieceFed faithful p old (Err e) new =
    ((p.end ≡ Faulty e) × Reports faithful p.findings.items old new)
    ⊎ ((e ≡ Memory) × (n : ℕ) × Reports faithful (take n p.findings.items) old new)
