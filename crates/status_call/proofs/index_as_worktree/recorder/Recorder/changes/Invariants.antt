use Rattle.std.proofs.Common.{◌≡◌, map, take}
use Rattle.status_call.specs.IndexChanges.{changes_of}
use Rattle.status_call.specs.RecorderVisits.{visit_of}
use Rattle.status_call.proofs.index_as_worktree.recorder.Recorder.changes.Given as goal

abbrev pub invariant-loop-record : goal.invariant-loop-record
invariant-loop-record g l = l.changes.items ≡ changes_of (map visit_of (take l.record-index l.fn.self.records.items))
