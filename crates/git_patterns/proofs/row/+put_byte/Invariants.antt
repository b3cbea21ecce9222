use Rattle.std.proofs.Common.{length}
use Rattle.git_patterns.proofs.row.+put_byte.Given as goal

abbrev pub decreases-put_byte : goal.decreases-put_byte
decreases-put_byte l = length l.pieces.now
