use Rattle.std.proofs.Common.{◌≡◌, length}
use Rattle.std.specs.List.{list_any}
use Rattle.git_attributes.specs.Lfs.{has_same_digit, lines_of}
use Rattle.git_attributes.proofs.pointer.is_repeated.Given as goal

abbrev pub invariant-lines : goal.invariant-lines
invariant-lines l = list_any (has_same_digit l.line) (lines_of l.rest) ≡ list_any (has_same_digit l.line) (lines_of l.text)

abbrev pub decreases-lines : goal.decreases-lines
decreases-lines l = length l.rest
