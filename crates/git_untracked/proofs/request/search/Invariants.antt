use Rattle.std.proofs.Common.{◌-◌}
use Rattle.git_untracked.proofs.request.search.Given as goal

abbrev pub decreases-halves : goal.decreases-halves
decreases-halves l = l.high - l.low
