use Rattle.std.proofs.Common.{◌≡◌, ◌++◌, map, take}
use Rattle.std.specs.List.{filter}
use Rattle.status_index.specs.States.{index_of}
use Rattle.git_staged.specs.Letters.{change_view}
use Rattle.git_staged.specs.Staged.{is_selected, staged_view}
use Rattle.git_staged.proofs.staged.push_selected.Given as goal

-- the selected changes so far were appended
abbrev pub invariant-loop-change : goal.invariant-loop-change
invariant-loop-change g l =
    map staged_view l.found.items ≡ map staged_view l.fn.found.items ++ filter (is_selected (g.P.Pathspec.included l.paths) (index_of l.head) (index_of l.index)) (map change_view (take l.change-index l.changes))
