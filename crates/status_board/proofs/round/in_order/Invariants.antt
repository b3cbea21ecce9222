use Rattle.std.specs.Vec.Iter.{into_iter_items}
use Rattle.status_board.specs.FinishedPieces.{IsPlaced}
use Rattle.status_board.proofs.round.in_order.Given as goal

abbrev pub invariant-loop-piece : goal.invariant-loop-piece
invariant-loop-piece g l = IsPlaced l.fn.finished.items l.fn.end l.slots.items (into_iter_items l.piece-iterator)
