use Rattle.std.proofs.Common.{◌≡◌, length}
use Rattle.git_attributes.specs.Ident.{has_dollar}
use Rattle.git_attributes.proofs.ident.has_dollar.Given as goal

abbrev pub invariant-bytes : goal.invariant-bytes
invariant-bytes l = has_dollar l.rest ≡ has_dollar l.text

abbrev pub decreases-bytes : goal.decreases-bytes
decreases-bytes l = length l.rest
