use Rattle.std.proofs.Common.{None, sym, ap, subst}
use Rattle.status_base.specs.ListedNodes.{Listing}
use Rattle.status_base.specs.Listing.{listing_of}
use Rattle.status_base.specs.ListingTable.{AreNamesOf}
use Rattle.status_base.proofs.ListingTables.{unlisted}
use Rattle.status_base.proofs.fscache.names.Names.of_listing.Goals as goal

pub returns-in-None : goal.returns-in-None
returns-in-None c =
    subst (λ (l : Listing). AreNamesOf l c.new.result) (sym (ap listing_of c.in-None.is)) (subst (AreNamesOf None) (sym c.new.ensures) unlisted)
