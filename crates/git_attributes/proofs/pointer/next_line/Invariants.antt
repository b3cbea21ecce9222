use Rattle.std.proofs.Common.{◌≡◌, ◌≤◌, length}
use Rattle.git_attributes.specs.Lfs.{lines_of}
use Rattle.git_attributes.proofs.pointer.next_line.Given as goal

abbrev pub invariant-lines : goal.invariant-lines
invariant-lines l = record {
  lines : lines_of l.rest ≡ lines_of l.text;
  less : length l.rest ≤ length l.text;
}

abbrev pub decreases-lines : goal.decreases-lines
decreases-lines l = length l.rest
