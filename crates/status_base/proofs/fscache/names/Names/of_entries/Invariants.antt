use Rattle.std.proofs.Common.{Some}
use Rattle.status_base.specs.Listing.{entries_of}
use Rattle.status_base.specs.ListingTable.{AreNamesOf}
use Rattle.status_base.proofs.fscache.names.Names.of_entries.Given as goal

abbrev pub invariant-loop-name : goal.invariant-loop-name
invariant-loop-name l = AreNamesOf (Some (entries_of l.yielded)) l.names
