use Rattle.std.proofs.Common.{◌≡◌, take}
use Rattle.status_rewrites.specs.Joins.{side_of}
use Rattle.status_rewrites.proofs.seen.standing_on.Given as goal

abbrev pub invariant-loop-item : goal.invariant-loop-item
invariant-loop-item l = l.kept.items ≡ side_of l.side l.track_empty (take l.item-index l.seen)
