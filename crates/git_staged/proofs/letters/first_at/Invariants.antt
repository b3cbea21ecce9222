use Rattle.std.proofs.Common.{◌≤◌, ◌-◌, length}
use Rattle.std.specs.List.{prefix_len}
use Rattle.bstr.specs.BStr.{bstr_bytes}
use Rattle.status_index.specs.States.{index_of}
use Rattle.status_index.specs.Stretch.{is_below}
use Rattle.git_staged.proofs.letters.first_at.Given as goal

-- the paths of the entries passed so far are less
abbrev pub invariant-loop-next : goal.invariant-loop-next
invariant-loop-next l = l.next ≤ prefix_len (is_below (bstr_bytes l.path)) (index_of l.index)

abbrev pub decreases-loop-next : goal.decreases-loop-next
decreases-loop-next l = length l.entries - l.next
