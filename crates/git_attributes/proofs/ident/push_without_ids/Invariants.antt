use Rattle.std.proofs.Common.{◌≡◌, ◌++◌, length}
use Rattle.git_attributes.specs.Ident.{stored_from, without_ids}
use Rattle.git_attributes.proofs.ident.push_without_ids.Given as goal

abbrev pub invariant-bytes : goal.invariant-bytes
invariant-bytes l = l.stored.items ++ stored_from l.is_within l.rest ≡ l.fn.stored.items ++ without_ids l.text

abbrev pub decreases-bytes : goal.decreases-bytes
decreases-bytes l = length l.rest
