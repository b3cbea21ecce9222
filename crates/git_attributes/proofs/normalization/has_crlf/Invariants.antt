use Rattle.std.proofs.Common.{◌≡◌, length}
use Rattle.git_attributes.specs.Text.{has_crlf}
use Rattle.git_attributes.proofs.normalization.has_crlf.Given as goal

abbrev pub invariant-bytes : goal.invariant-bytes
invariant-bytes l = has_crlf l.rest ≡ has_crlf l.bytes

abbrev pub decreases-bytes : goal.decreases-bytes
decreases-bytes l = length l.rest
