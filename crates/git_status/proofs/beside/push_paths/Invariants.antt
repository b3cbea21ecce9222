use Rattle.std.proofs.Common.{◌≡◌, ◌++◌, map, take}
use Rattle.git_untracked.specs.Lines.{paths_of}
use Rattle.git_status.specs.Besides.{other_row}
use Rattle.git_status.specs.Lines.{row_lines}
use Rattle.git_status.proofs.beside.push_paths.Given as goal

-- the lines of the paths so far were appended
abbrev pub invariant-loop-path : goal.invariant-loop-path
invariant-loop-path l = l.lines.items ≡ l.fn.lines.items ++ row_lines l.style (map (other_row l.letters) (paths_of (take l.path-index l.paths)))
