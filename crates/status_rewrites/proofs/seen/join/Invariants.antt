use Rattle.std.proofs.Common.{length, ◌+◌, ◌-◌}
use Rattle.status_rewrites.specs.IdentityPairs.{key_cmp}
use Rattle.status_rewrites.specs.Joins.{rename_of}
use Rattle.status_rewrites.specs.SeenItems.{changed_of}
use Rattle.status_rewrites.proofs.Joining.{Joined}
use Rattle.status_rewrites.proofs.Keys.{key_total}
use Rattle.status_rewrites.proofs.seen.join.Given as goal

abbrev pub invariant-loop-source : goal.invariant-loop-source
invariant-loop-source l = Joined key_cmp key_total changed_of rename_of l.gone l.came l.source l.destination l.pairs.items

-- Each iteration passes a change of one side.
abbrev pub decreases-loop-source : goal.decreases-loop-source
decreases-loop-source l = (length l.gone - l.source) + (length l.came - l.destination)
