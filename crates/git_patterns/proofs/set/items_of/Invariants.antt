use Rattle.std.proofs.Common.{◌≡◌, length, true}
use Rattle.git_patterns.specs.Sets.{item_step}
use Rattle.git_patterns.proofs.Items.{after, all}
use Rattle.git_patterns.proofs.Leaving.{lens}
use Rattle.git_patterns.proofs.set.items_of.Given as goal

abbrev pub invariant-items : goal.invariant-items
invariant-items l = after l.items.items (all lens item_step (l.is_first, l.rest)) ≡ all lens item_step (true, l.bytes)

abbrev pub decreases-items : goal.decreases-items
decreases-items l = length l.rest
