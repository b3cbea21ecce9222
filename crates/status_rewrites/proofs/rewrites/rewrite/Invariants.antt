use Rattle.std.proofs.Common.{take}
use Rattle.status_rewrites.proofs.Pairing.{HasPaired}
use Rattle.status_rewrites.proofs.rewrites.rewrite.Given as goal

abbrev pub invariant-loop-at : goal.invariant-loop-at
invariant-loop-at g l =
    let item = g.I.Item in
    HasPaired item.is_removed item.is_walked item.is_copy l.fn.items.items (take l.at l.pairs) l.places.items
