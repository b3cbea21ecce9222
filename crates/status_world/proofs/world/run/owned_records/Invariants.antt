use Rattle.std.proofs.Common.{◌≡◌, map}
use Rattle.status_world.specs.Reports.{reported_value, record_value}
use Rattle.status_world.proofs.world.run.owned_records.Given as goal

abbrev pub invariant-loop-record : goal.invariant-loop-record
invariant-loop-record l = map reported_value l.owned.items ≡ map record_value l.yielded
