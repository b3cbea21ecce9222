use Rattle.std.proofs.Common.{◌≡◌, ◌≤◌, length, map, drop}
use Rattle.git_patterns.specs.Rows.{named, row_of}
use Rattle.git_patterns.specs.Views.{part_of}
use Rattle.git_patterns.specs.Wildmatch.{is_match}
use Rattle.git_patterns.proofs.row.is_match_in.Given as goal

abbrev pub invariant-bytes : goal.invariant-bytes
invariant-bytes l = record {
  row : l.row ≡ row_of (map part_of l.pieces) (named (drop l.at l.path) l.is_folder);
  value : l.it ≡ is_match (map part_of l.pieces) (named (drop l.at l.path) l.is_folder);
  inside : l.at ≤ length l.path;
}

abbrev pub decreases-bytes : goal.decreases-bytes
decreases-bytes l = l.at
