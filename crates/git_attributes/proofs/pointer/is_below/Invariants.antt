use Rattle.std.proofs.Common.{◌≡◌, length}
use Rattle.git_attributes.specs.Lfs.{is_below_after}
use Rattle.git_attributes.proofs.pointer.is_below.Given as goal

abbrev pub invariant-digits : goal.invariant-digits
invariant-digits l = is_below_after l.limit l.number l.rest ≡ is_below_after l.limit 0 l.digits

abbrev pub decreases-digits : goal.decreases-digits
decreases-digits l = length l.rest
