use Rattle.std.proofs.Common.{◌≡◌, take}
use Rattle.status_index.specs.States.{index_of}
use Rattle.status_world.proofs.world.reopening.are_same_entries.Given as goal

-- The entries so far are equal.
abbrev pub invariant-loop-at : goal.invariant-loop-at
invariant-loop-at l = record {
  same : take l.at (index_of l.fn.a) ≡ take l.at (index_of l.fn.b);
}
