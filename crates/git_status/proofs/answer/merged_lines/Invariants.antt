use Rattle.std.proofs.Common.{◌≡◌, ◌++◌, drop, map}
use Rattle.status_call.specs.RecorderVisits.{visit_of}
use Rattle.git_staged.specs.Staged.{staged_view}
use Rattle.git_status.specs.Lines.{row_lines, visit_rows, with_staged}
use Rattle.git_status.proofs.answer.merged_lines.Given as goal

-- the lines of the other records, and of what else is staged, are to be appended
abbrev pub invariant-loop-record : goal.invariant-loop-record
invariant-loop-record g l =
    row_lines l.style (with_staged (visit_rows (map visit_of l.records)) (map staged_view l.staged))
    ≡ l.lines.items ++ row_lines l.style (with_staged (visit_rows (map visit_of (drop l.record-index l.records))) (map staged_view l.rest))
