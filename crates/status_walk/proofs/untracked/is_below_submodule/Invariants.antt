use Rattle.std.proofs.Common.{◌≡◌, false}
use Rattle.std.specs.List.{list_any}
use Rattle.status_index.specs.States.{index_of}
use Rattle.status_base.specs.Paths.{directories_below}
use Rattle.status_walk.specs.Untracked.{is_submodule_at}
use Rattle.status_walk.proofs.untracked.is_below_submodule.Given as goal

abbrev pub invariant-loop-end : goal.invariant-loop-end
invariant-loop-end l = list_any (is_submodule_at (index_of l.index)) (directories_below l.path l.end) ≡ false
