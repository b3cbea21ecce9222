use Rattle.std.proofs.Common.{◌≡◌, take}
use Rattle.git_attributes.proofs.worktree_files.common_front.Given as goal

abbrev pub invariant-loop-at : goal.invariant-loop-at
invariant-loop-at l = take l.at l.one ≡ take l.at l.other
