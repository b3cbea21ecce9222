use Rattle.std.proofs.Common.{◌≡◌, ◌+◌, ◌-◌, ◌≤◌, length, drop}
use Rattle.std.specs.List.{prefix_len}
use Rattle.git_attributes.specs.Lfs.{is_space}
use Rattle.git_attributes.proofs.pointer.without_front.Given as goal

abbrev pub invariant-at : goal.invariant-at
invariant-at l = (l.at ≤ length l.text) × (l.at + prefix_len is_space (drop l.at l.text) ≡ prefix_len is_space l.text)

abbrev pub decreases-at : goal.decreases-at
decreases-at l = length l.text - l.at
