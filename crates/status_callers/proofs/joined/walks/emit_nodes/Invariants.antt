use Rattle.std.proofs.Common.{◌≡◌, false}
use Rattle.status_callers.proofs.joined.walks.emit_nodes.Given as goal

abbrev pub invariant-loop-before : goal.invariant-loop-before
invariant-loop-before g l = (g.D.Delegate.state l.delegate).cancelled ≡ false
