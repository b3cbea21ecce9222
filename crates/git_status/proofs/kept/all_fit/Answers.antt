use Rattle.std.proofs.Common.{◌≡◌, subst, take, take_all, arith}
use Rattle.std.specs.List.{AllByRecursion}
use Rattle.status_index.specs.States.{backing_of, entries_of}
use Rattle.git_index.specs.RawEntry.{FixedFits}
use Rattle.git_status.proofs.Fitting.{widths_of}
use Rattle.git_status.proofs.kept.all_fit.Goals as goal

pub returns-clause-widths : goal.returns-clause-widths
returns-clause-widths c =
    let state = c.args.state.now in
    let items = c.entries-entry-items in
    let at = c.loop-entry.entry-index in
    let whole : take at items.result.now ≡ items.result.now = take_all at items.result.now (omega (arith, c.loop-entry-test.false)) in
    widths_of (backing_of state) (entries_of state)
    (subst (λ es. AllByRecursion (λ e. FixedFits e.stat) es) items.ensures.value (subst (λ es. AllByRecursion (λ e. FixedFits e.stat) es) whole c.loop-entry.invariant))
