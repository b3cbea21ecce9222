use Rattle.std.proofs.Common.{◌≡◌, take}
use Rattle.status_cli.specs.Replays.{counted_up, event_count}
use Rattle.status_cli.proofs.replay.first_place.Given as goal

-- the events of the stretches so far are counted
abbrev pub invariant-loop-events : goal.invariant-loop-events
invariant-loop-events l = l.place ≡ counted_up (event_count (take l.events-index l.events-items))
