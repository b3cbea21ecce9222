use Rattle.std.proofs.Common.{◌≡◌, length}
use Rattle.git_attributes.specs.Words.{skip_blanks}
use Rattle.git_attributes.proofs.words.skip_blanks.Given as goal

abbrev pub invariant-blanks : goal.invariant-blanks
invariant-blanks l = skip_blanks l.rest ≡ skip_blanks l.text

abbrev pub decreases-blanks : goal.decreases-blanks
decreases-blanks l = length l.rest
