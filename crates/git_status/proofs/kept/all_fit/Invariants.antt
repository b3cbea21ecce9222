use Rattle.std.proofs.Common.{take}
use Rattle.std.specs.List.{AllByRecursion}
use Rattle.git_index.specs.RawEntry.{FixedFits}
use Rattle.git_status.proofs.kept.all_fit.Given as goal

-- the stats so far have their widths
abbrev pub invariant-loop-entry : goal.invariant-loop-entry
invariant-loop-entry l = AllByRecursion (λ e. FixedFits e.stat) (take l.entry-index l.entry-items)
