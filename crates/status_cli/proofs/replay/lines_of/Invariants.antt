use Rattle.std.proofs.Common.{◌≡◌, take}
use Rattle.status_cli.specs.Replays.{replay_lines}
use Rattle.status_cli.proofs.replay.lines_of.Given as goal

-- the lines of the reports so far were appended
abbrev pub invariant-loop-at : goal.invariant-loop-at
invariant-loop-at l = l.text.items ≡ replay_lines l.counts (take l.at l.reports)
