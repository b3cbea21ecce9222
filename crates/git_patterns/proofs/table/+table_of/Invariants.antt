use Rattle.std.proofs.Common.{length}
use Rattle.git_patterns.proofs.table.+table_of.Given as goal

abbrev pub decreases-table_of : goal.decreases-table_of
decreases-table_of l = length l.pieces.now
