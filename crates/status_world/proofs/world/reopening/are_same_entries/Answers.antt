use Rattle.std.proofs.Common.{arith}
use Rattle.std.proofs.lemmas.Bool.Decides.{not_from_Decides}
use Rattle.status_world.proofs.SameEntries.{IsLent, same_more, not_same}
use Rattle.status_world.proofs.world.reopening.are_same_entries.Goals as goal

pub returns-then-not-is_same_entry : goal.returns-then-not-is_same_entry
returns-then-not-is_same_entry c =
    let left : IsLent c.args.a.now c.path_backing.result.now c.entries-entries.result.now c.loop-at.at =
    record { backing = c.path_backing.ensures; entries = c.entries-entries.ensures.value; inside = omega (arith, c.loop-at-test.true) } in
    let right : IsLent c.args.b.now c.path_backing-in-loop-at.result.now c.entries-others.result.now c.loop-at.at =
    record { backing = c.path_backing-in-loop-at.ensures; entries = c.entries-others.ensures.value; inside = omega (arith, c.loop-at-test.true, c.if-entries-others.false) } in
    (λ e. absurd (cc), λ same. absurd (not_same _ _ _ _ _ _ _ _ _ left right (not_from_Decides _ c.is_same_entry.ensures c.if-not-is_same_entry.true) same))

pub loop-at-preserved : goal.loop-at-preserved
loop-at-preserved c =
    let left : IsLent c.args.a.now c.path_backing.result.now c.entries-entries.result.now c.loop-at.at =
    record { backing = c.path_backing.ensures; entries = c.entries-entries.ensures.value; inside = omega (arith, c.loop-at-test.true) } in
    let right : IsLent c.args.b.now c.path_backing-in-loop-at.result.now c.entries-others.result.now c.loop-at.at =
    record { backing = c.path_backing-in-loop-at.ensures; entries = c.entries-others.ensures.value; inside = omega (arith, c.loop-at-test.true, c.if-entries-others.false) } in
    record { same = same_more _ _ _ _ _ _ _ _ _ left right c.loop-at.invariant.same (c.is_same_entry.ensures.0 c.if-not-is_same_entry.false) }
