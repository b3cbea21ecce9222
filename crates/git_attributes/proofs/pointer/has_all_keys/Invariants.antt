use Rattle.std.proofs.Common.{◌≡◌, length}
use Rattle.git_attributes.specs.Lfs.{all_keys, is_rest, lines_of}
use Rattle.git_attributes.proofs.pointer.has_all_keys.Given as goal

abbrev pub invariant-lines : goal.invariant-lines
invariant-lines l = is_rest l.keys (lines_of l.rest) ≡ is_rest all_keys (lines_of l.text)

abbrev pub decreases-lines : goal.decreases-lines
decreases-lines l = length l.rest
