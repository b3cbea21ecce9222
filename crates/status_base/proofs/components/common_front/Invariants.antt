use Rattle.std.proofs.Common.{◌≡◌, take}
use Rattle.status_base.proofs.components.common_front.Given as goal

-- the bytes passed so far are the same
abbrev pub invariant-loop-at : goal.invariant-loop-at
invariant-loop-at l = take l.at l.one ≡ take l.at l.other
