use Rattle.std.proofs.Common.{◌≡◌, ◌++◌, length, map}
use Rattle.git_patterns.specs.Views.{part_of}
use Rattle.git_patterns.specs.Wildmatch.{One}
use Rattle.git_patterns.proofs.piece.bytes_of.Given as goal

abbrev pub invariant-bytes : goal.invariant-bytes
invariant-bytes l = map part_of l.pieces.items ++ map One l.rest ≡ map One l.bytes

abbrev pub decreases-bytes : goal.decreases-bytes
decreases-bytes l = length l.rest
