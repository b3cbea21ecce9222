use Rattle.std.proofs.Common.{◌≡◌, ◌-◌, ◌≤◌, min}
use Rattle.status_index.proofs.Halvings.{IsHalved}
use Rattle.status_index.proofs.probe.search.Given as goal

abbrev pub invariant-halves : goal.invariant-halves
invariant-halves g l = record {
  order : l.low ≤ l.high;
  inside : l.high ≤ l.len;
  cut : g.P.Probe.cut l.probe ≡ g.P.Probe.cut l.initial.probe;
  low : l.low ≤ g.P.Probe.cut l.probe;
  high : min (g.P.Probe.cut l.probe) l.len ≤ l.high;
  few : IsHalved (g.P.Probe.asked l.initial.probe) (g.P.Probe.asked l.probe) (l.high - l.low) l.len;
}

abbrev pub decreases-halves : goal.decreases-halves
decreases-halves g l = l.high - l.low
