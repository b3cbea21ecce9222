use Rattle.std.proofs.Common.{◌≡◌, ◌≤◌, ◌+◌, length, map}
use Rattle.git_patterns.specs.Views.{part_of}
use Rattle.git_patterns.specs.Wildmatch.{after_slash, is_match}
use Rattle.git_patterns.proofs.piece.+is_match.Given as goal

abbrev pub decreases-is_match : goal.decreases-is_match
decreases-is_match l = length l.pieces.now + length l.path.now

abbrev pub invariant-folders : goal.invariant-folders
invariant-folders l = record {
  same : after_slash (is_match (map part_of l.rest)) l.left ≡ after_slash (is_match (map part_of l.rest)) l.path;
  shorter : length l.left ≤ length l.path;
}

abbrev pub decreases-folders : goal.decreases-folders
decreases-folders l = length l.left
