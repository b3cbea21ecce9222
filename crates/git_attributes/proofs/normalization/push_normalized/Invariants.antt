use Rattle.std.proofs.Common.{◌≡◌, ◌++◌, length}
use Rattle.git_attributes.specs.Text.{normalized}
use Rattle.git_attributes.proofs.normalization.push_normalized.Given as goal

abbrev pub invariant-bytes : goal.invariant-bytes
invariant-bytes l = l.stored.items ++ normalized l.rest ≡ l.fn.stored.items ++ normalized l.text

abbrev pub decreases-bytes : goal.decreases-bytes
decreases-bytes l = length l.rest
