use Rattle.std.proofs.Common.{◌∙◌, ap, map}
use Rattle.status_rewrites.specs.SeenItems.{numbered}
use Rattle.status_rewrites.proofs.Rows.{seen_more}
use Rattle.status_rewrites.proofs.seen.see_all.Goals as goal

pub loop-place-preserved : goal.loop-place-preserved
loop-place-preserved g c =
    ap (map numbered) c.in_ok-push.ensures.items
    ∙ seen_more g.C.Change.changed c.args.items.now c.loop-place.place c.index-items-place.result c.loop-place.seen.items c.see.result
    c.loop-place-test.true c.index-items-place.is c.see.ensures c.loop-place.invariant
