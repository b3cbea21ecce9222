use Rattle.std.proofs.Common.{◌≡◌, false, ◌≤◌}
use Rattle.status_walk.proofs.disk.DiskWalkWalk.walk.Given as goal

abbrev pub invariant-loop-turn : goal.invariant-loop-turn
invariant-loop-turn g l = record {
  going : (g.D.Delegate.state l.delegate).cancelled ≡ false;
  few : l.emitted ≤ l.turn;
}
