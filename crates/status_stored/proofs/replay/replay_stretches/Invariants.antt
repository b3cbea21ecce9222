use Rattle.std.proofs.Common.{All, map, take}
use Rattle.status_stored.specs.Reopening.{events_in}
use Rattle.status_world.specs.Reports.{HasSum, report_value}
use Rattle.status_world.specs.Sound.{IsFormed}
use Rattle.status_world.proofs.Replays.{AreReplayed}
use Rattle.status_stored.proofs.replay.replay_stretches.Given as goal

-- The events of the stretches so far were accepted, and the reports are theirs.
abbrev pub invariant-loop-stretch : goal.invariant-loop-stretch
invariant-loop-stretch g l = record {
  replayed : AreReplayed (events_in (take l.stretch l.stretches)) l.fn.world l.world (map report_value l.reports.items);
  formed : IsFormed l.fn.world → IsFormed l.world;
  sums : All HasSum l.reports.items;
}
