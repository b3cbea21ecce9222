use Rattle.std.proofs.Common.{◌≡◌, All, vec_len}
use Rattle.status_call.specs.Views.{SeesWithin}
use Rattle.status_call.proofs.index_as_worktree.round.deciders_for.Given as goal

abbrev pub invariant-loop : goal.invariant-loop
invariant-loop g l = record {
  count : vec_len l.deciders ≡ l.counter;
  same : All (λ d. (g.D.Decide.query d ≡ g.D.Decide.query l.decider) × SeesWithin (g.D.Decide.allows d) (g.D.Decide.allows l.decider)) l.deciders.items;
}
