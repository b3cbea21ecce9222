use Rattle.std.proofs.Common.{◌≡◌, map, take}
use Rattle.std.specs.List.{enumerate_from}
use Rattle.status_rewrites.specs.SeenItems.{numbered}
use Rattle.status_rewrites.proofs.seen.see_all.Given as goal

abbrev pub invariant-loop-place : goal.invariant-loop-place
invariant-loop-place g l = map numbered l.seen.items ≡ enumerate_from 0 (map g.C.Change.changed (take l.place l.items))
