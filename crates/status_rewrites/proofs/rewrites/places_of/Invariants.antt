use Rattle.std.proofs.Common.{◌≡◌, ◌++◌, map}
use Rattle.std.specs.Vec.Iter.{into_iter_items}
use Rattle.status_rewrites.specs.Places.{free}
use Rattle.status_rewrites.proofs.rewrites.places_of.Given as goal

abbrev pub invariant-loop-item : goal.invariant-loop-item
invariant-loop-item g l = l.places.items ++ map free (into_iter_items l.item-iterator) ≡ map free l.fn.items.items
