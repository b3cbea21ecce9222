use Rattle.std.proofs.Common.{◌≡◌, length}
use Rattle.git_patterns.proofs.Items.{after, all}
use Rattle.git_attributes.specs.Quoted.{quoted_at}
use Rattle.git_attributes.proofs.words.unquoted.Given as goal

abbrev pub invariant-bytes : goal.invariant-bytes
invariant-bytes l = after l.bytes.items (all length quoted_at l.rest) ≡ all length quoted_at l.text

abbrev pub decreases-bytes : goal.decreases-bytes
decreases-bytes l = length l.rest
