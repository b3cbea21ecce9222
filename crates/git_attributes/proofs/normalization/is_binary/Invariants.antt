use Rattle.std.proofs.Common.{◌≡◌, ◌≤◌, ◌+◌, length}
use Rattle.std.specs.Prelude.{count_by}
use Rattle.std.specs.List.{list_any}
use Rattle.git_attributes.specs.Text.{has_lone_cr, is_nonprintable, is_nul, is_printable}
use Rattle.git_attributes.proofs.normalization.is_binary.Given as goal

abbrev pub invariant-bytes : goal.invariant-bytes
invariant-bytes l = record {
  lone : has_lone_cr l.rest ≡ has_lone_cr l.bytes;
  nul : list_any is_nul l.rest ≡ list_any is_nul l.bytes;
  printable : l.printable + count_by is_printable l.rest ≡ count_by is_printable l.bytes;
  nonprintable : l.nonprintable + count_by is_nonprintable l.rest ≡ count_by is_nonprintable l.bytes;
  room : l.printable + l.nonprintable + length l.rest ≤ length l.bytes;
}

abbrev pub decreases-bytes : goal.decreases-bytes
decreases-bytes l = length l.rest
