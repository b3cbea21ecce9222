use Rattle.std.proofs.Common.{◌≡◌, ◌++◌, ◌∷◌, List, drop, map}
use Rattle.bstr.specs.BStr.{bstr_bytes}
use Rattle.git_staged.specs.Staged.{staged_view}
use Rattle.git_status.specs.Lines.{Row, row_lines, with_staged}
use Rattle.git_status.proofs.columns.push_beside.Given as goal

-- the lines of the path and of the staged paths from this one on are to be appended
abbrev pub invariant-loop-at : goal.invariant-loop-at
invariant-loop-at l = (rows : List Row)
    → l.fn.lines.items ++ row_lines l.style (with_staged ((bstr_bytes l.path, l.two) ∷ rows) (map staged_view l.staged)) ≡ l.lines.items ++ row_lines l.style (with_staged ((bstr_bytes l.path, l.two) ∷ rows) (map staged_view (drop l.at l.staged)))
