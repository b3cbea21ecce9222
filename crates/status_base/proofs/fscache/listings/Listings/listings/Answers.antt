use Rattle.std.proofs.Common.{◌∙◌}
use Rattle.status_base.proofs.ListingTables.{map-len}
use Rattle.status_base.proofs.fscache.listings.Listings.listings.Goals as goal

pub returns : goal.returns
returns c = c.len.ensures.len ∙ map-len c.self.inside.directories.entries _ c.self.view_is c.len.ensures.ordered
