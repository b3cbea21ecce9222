use Rattle.std.proofs.Common.{◌≡◌, length, map, true, take, drop}
use Rattle.git_patterns.specs.Patterns.{literal_len, part_step}
use Rattle.git_patterns.specs.Views.{part_of}
use Rattle.git_patterns.specs.Wildmatch.{One}
use Rattle.git_patterns.proofs.Items.{after, all}
use Rattle.git_patterns.proofs.Leaving.{lens}
use Rattle.git_patterns.proofs.piece.pieces_of.Given as goal

abbrev pub invariant-pieces : goal.invariant-pieces
invariant-pieces l = after (map part_of l.pieces.items) (all lens part_step (l.at_name, l.rest)) ≡ after (map One (take (literal_len l.fn.pattern) l.fn.pattern)) (all lens part_step (true, drop (literal_len l.fn.pattern) l.fn.pattern))

abbrev pub decreases-pieces : goal.decreases-pieces
decreases-pieces l = length l.rest
