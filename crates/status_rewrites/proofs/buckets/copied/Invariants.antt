use Rattle.std.proofs.Common.{◌≡◌, map, take}
use Rattle.status_rewrites.proofs.buckets.copied.Given as goal

abbrev pub invariant-loop-item : goal.invariant-loop-item
invariant-loop-item l = l.part.items ≡ map (λ s. s.now) (take l.item-index l.bucket)
