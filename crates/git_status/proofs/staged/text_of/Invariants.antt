use Rattle.std.proofs.Common.{◌≡◌, ◌++◌, drop, map}
use Rattle.git_staged.specs.Staged.{staged_view}
use Rattle.git_status.specs.Lines.{row_lines, with_staged}
use Rattle.git_status.specs.StagedRuns.{unmerged_row}
use Rattle.git_status.proofs.staged.text_of.Given as goal

-- the lines of the other conflicts, and of what else is staged, are to be appended
abbrev pub invariant-loop-one : goal.invariant-loop-one
invariant-loop-one l =
    row_lines l.style (with_staged (map unmerged_row l.unmerged) (map staged_view l.staged)) ≡ l.text.items ++ row_lines l.style (with_staged (map unmerged_row (drop l.one-index l.unmerged)) (map staged_view l.rest))
