use Rattle.std.proofs.Common.{◌≡◌, length}
use Rattle.git_patterns.specs.Text.{name_after}
use Rattle.git_patterns.proofs.text.name_of.Given as goal

abbrev pub invariant-bytes : goal.invariant-bytes
invariant-bytes l = name_after l.name l.rest ≡ name_after l.path l.path

abbrev pub decreases-bytes : goal.decreases-bytes
decreases-bytes l = length l.rest
