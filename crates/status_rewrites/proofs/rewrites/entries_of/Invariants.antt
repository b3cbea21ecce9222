use Rattle.std.proofs.Common.{◌≡◌, ◌++◌, flat_map}
use Rattle.std.specs.Vec.Iter.{into_iter_items}
use Rattle.status_rewrites.specs.Places.{standing_in}
use Rattle.status_rewrites.proofs.rewrites.entries_of.Given as goal

abbrev pub invariant-loop-place : goal.invariant-loop-place
invariant-loop-place g l =
    l.entries.items ++ flat_map standing_in (into_iter_items l.place-iterator) ≡ flat_map standing_in l.fn.places.items
