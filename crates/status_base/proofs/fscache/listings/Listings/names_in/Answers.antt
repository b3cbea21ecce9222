use Rattle.std.proofs.Common.{◌∙◌}
use Rattle.status_base.proofs.ListingTables.{map-get}
use Rattle.status_base.proofs.fscache.listings.Listings.names_in.Goals as goal

pub returns : goal.returns
returns c = c.get.ensures.value ∙ map-get c.self.inside.directories.entries _ _ c.self.view_is
