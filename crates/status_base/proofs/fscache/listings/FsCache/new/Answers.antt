use Rattle.std.proofs.Common.{sym, subst}
use Rattle.status_base.specs.ListingTable.{HasListedNames}
use Rattle.status_base.proofs.ListingTables.{empty-HasListedNames}
use Rattle.status_base.proofs.fscache.listings.FsCache.new.Goals as goal

pub invariant_of-result : goal.invariant_of-result
invariant_of-result g c =
    let listing = g.L.Lister.listing c.args.lister.now in
    record { kept = λ modelled. subst (HasListedNames listing) (sym c.new.ensures) (empty-HasListedNames listing) }
