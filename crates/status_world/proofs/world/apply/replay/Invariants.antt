use Rattle.std.proofs.Common.{All, map, take}
use Rattle.status_world.specs.Reports.{HasSum, report_value}
use Rattle.status_world.proofs.Replays.{AreReplayed}
use Rattle.status_world.proofs.world.apply.replay.Given as goal

-- The events so far were accepted, and the reports are theirs.
abbrev pub invariant-loop-place : goal.invariant-loop-place
invariant-loop-place g l = record {
  replayed : AreReplayed (take l.place l.events) l.fn.world l.world (map report_value l.reports.items);
  sums : All HasSum l.reports.items;
}
