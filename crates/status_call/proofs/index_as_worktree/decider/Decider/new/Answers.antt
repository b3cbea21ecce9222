use Rattle.std.proofs.Common.{rules, sym, ap, subst}
use Rattle.std.proofs.lemmas.Grind.{merely}
use Rattle.status_base.specs.CheckState.{CheckState}
use Rattle.status_base.specs.Sights.{IsOpen}
use Rattle.status_base.proofs.SightLemmas.{open_nothing}
use Rattle.status_base.specs.ListingTable.{HasListedNames, HasListedSeen}
use Rattle.status_base.proofs.ListingTables.{empty-HasListedNames, empty-HasListedSeen}
use Rattle.status_call.proofs.index_as_worktree.decider.Decider.new.Goals as goal

pub invariant_of-result : goal.invariant_of-result
invariant_of-result g c =
    let listing = g.L.Lister.listing c.args.inputs.lister in
    record { guard = c.requires.guard; clear = search rules; opened = merely (subst (IsOpen (g.G.Guard.may_stat c.args.inputs.worktree)) (sym (ap (λ (s : CheckState). s.path) c.new-check.ensures)) (open_nothing _ (g.met.G.Guard.stat_may_fail c.args.inputs.worktree))); listed = merely (subst (HasListedSeen (g.L.Lister.may_list c.args.inputs.lister)) (sym c.new-listings.ensures) (empty-HasListedSeen (g.L.Lister.may_list c.args.inputs.lister))); kept = λ modelled. subst (HasListedNames listing) (sym c.new-listings.ensures) (empty-HasListedNames listing) }
