use Rattle.std.proofs.Common.{◌≡◌, ◌+◌, ◌≤◌, length, take}
use Rattle.std.specs.List.{suffix_len}
use Rattle.git_attributes.specs.Lfs.{is_space}
use Rattle.git_attributes.proofs.pointer.without_end.Given as goal

abbrev pub invariant-len : goal.invariant-len
invariant-len l = (l.len ≤ length l.text) × (l.len + suffix_len is_space l.text ≡ length l.text + suffix_len is_space (take l.len l.text))

abbrev pub decreases-len : goal.decreases-len
decreases-len l = l.len
