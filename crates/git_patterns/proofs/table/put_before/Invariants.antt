use Rattle.std.proofs.Common.{◌≡◌, ◌≤◌, ◌+◌, ◌-◌, ℕ, Bool, false, List, length, take, drop, get_or}
use Rattle.git_patterns.specs.Tables.{carried, tests}
use Rattle.git_patterns.specs.Views.{part_of}
use Rattle.git_patterns.specs.Wildmatch.{after_piece}
use Rattle.git_patterns.proofs.table.put_before.Given as goal

abbrev pub invariant-suffixes : goal.invariant-suffixes
invariant-suffixes l = record {
  done : (p : List ℕ → Bool) → l.fn.table ≡ tests p l.path → take (length l.path - l.at + 1) l.table ≡ tests (after_piece (part_of l.piece) p) (drop l.at l.path);
  carries : (p : List ℕ → Bool) → l.fn.table ≡ tests p l.path → l.carry ≡ carried (part_of l.piece) p (drop l.at l.path);
  kept : drop (length l.path - l.at + 1) l.table ≡ drop (length l.path - l.at + 1) l.fn.table;
  last : l.after ≡ get_or l.fn.table (length l.path - l.at) false;
  inside : l.at ≤ length l.path;
}

abbrev pub decreases-suffixes : goal.decreases-suffixes
decreases-suffixes l = l.at
