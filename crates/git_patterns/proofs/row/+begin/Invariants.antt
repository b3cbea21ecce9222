use Rattle.std.proofs.Common.{length}
use Rattle.git_patterns.proofs.row.+begin.Given as goal

abbrev pub decreases-begin : goal.decreases-begin
decreases-begin l = length l.pieces.now
