use Rattle.std.proofs.Common.{◌-◌, length, map}
use Rattle.status_index.specs.States.{entries_of, index_of}
use Rattle.git_status.specs.StagedRuns.{unmerged_row}
use Rattle.git_status.proofs.Unmerged.{IsReached}
use Rattle.git_status.proofs.staged.unmerged_in.Given as goal

-- the rows of the paths so far were found, and no later side has one of these paths
abbrev pub invariant-loop-at : goal.invariant-loop-at
invariant-loop-at g l = IsReached (index_of l.index) (g.P.Pathspec.included l.paths) l.at (map unmerged_row l.found.items)

abbrev pub decreases-loop-at : goal.decreases-loop-at
decreases-loop-at g l = length (entries_of l.index) - l.at
