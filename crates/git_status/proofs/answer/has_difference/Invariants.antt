use Rattle.std.proofs.Common.{◌≡◌, false, map, take}
use Rattle.std.specs.List.{list_any}
use Rattle.status_call.specs.RecorderVisits.{visit_of}
use Rattle.git_status.specs.Runs.{is_difference}
use Rattle.git_status.proofs.answer.has_difference.Given as goal

-- none of the records so far is a difference
abbrev pub invariant-loop-record : goal.invariant-loop-record
invariant-loop-record g l = list_any is_difference (map visit_of (take l.record-index l.records)) ≡ false
