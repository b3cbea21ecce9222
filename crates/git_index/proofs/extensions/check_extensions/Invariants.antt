use Rattle.std.proofs.Common.{length}
use Rattle.git_index.proofs.Listing.{Skipped}
use Rattle.git_index.proofs.extensions.check_extensions.Given as goal

abbrev pub invariant-extensions : goal.invariant-extensions
invariant-extensions l = Skipped l.bytes l.cursor.rest.now

abbrev pub decreases-extensions : goal.decreases-extensions
decreases-extensions l = length l.cursor.rest.now
