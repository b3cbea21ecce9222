use Rattle.std.proofs.Common.{vec_len}
use Rattle.git_objects.proofs.pack.applied.Given as goal

abbrev pub decreases-loop-delta : goal.decreases-loop-delta
decreases-loop-delta l = vec_len l.deltas
