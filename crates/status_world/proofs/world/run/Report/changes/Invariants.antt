use Rattle.std.proofs.Common.{◌≡◌, map, take}
use Rattle.status_world.specs.Reports.{changes_in, reported_value}
use Rattle.status_world.proofs.world.run.Report.changes.Given as goal

abbrev pub invariant-loop-record : goal.invariant-loop-record
invariant-loop-record l = l.changes.items ≡ changes_in (map reported_value (take l.record-index l.fn.self.records.items))
