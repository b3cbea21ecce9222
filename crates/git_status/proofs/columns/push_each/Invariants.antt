use Rattle.std.proofs.Common.{◌≡◌, ◌++◌, map, take}
use Rattle.git_staged.specs.Staged.{staged_view}
use Rattle.git_status.specs.Lines.{row_lines, staged_row}
use Rattle.git_status.proofs.columns.push_each.Given as goal

-- the lines of the paths so far were appended
abbrev pub invariant-loop-one : goal.invariant-loop-one
invariant-loop-one l = l.lines.items ≡ l.fn.lines.items ++ row_lines l.style (map staged_row (map staged_view (take l.one-index l.staged)))
