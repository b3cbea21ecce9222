use Rattle.std.proofs.Common.{◌≡◌, length}
use Rattle.git_patterns.specs.Patterns.{after_stars}
use Rattle.git_patterns.proofs.piece.after_stars.Given as goal

abbrev pub invariant-stars : goal.invariant-stars
invariant-stars l = after_stars l.rest ≡ after_stars l.bytes

abbrev pub decreases-stars : goal.decreases-stars
decreases-stars l = length l.rest
