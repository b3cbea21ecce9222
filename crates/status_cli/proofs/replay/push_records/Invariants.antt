use Rattle.std.proofs.Common.{◌≡◌, ◌++◌, map, take}
use Rattle.std.specs.List.{flat_map}
use Rattle.status_world.specs.Reports.{reported_value}
use Rattle.status_cli.specs.Replays.{reported_line}
use Rattle.status_cli.proofs.replay.push_records.Given as goal

-- the lines of the records so far were appended
abbrev pub invariant-loop-record : goal.invariant-loop-record
invariant-loop-record l =
    l.text.items ≡ l.fn.text.items ++ flat_map reported_line (map reported_value (take l.record-index l.report.records.items))
