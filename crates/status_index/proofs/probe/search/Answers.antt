use Rattle.std.proofs.Common.{◌∙◌, ◌-◌, ◌<◌, arith}
use Rattle.status_index.proofs.Halvings.{IsHalved-next}
use Rattle.status_index.proofs.probe.search.Goals as goal

pub halves-preserved-then-before : goal.halves-preserved-then-before
halves-preserved-then-before g c =
    let left : c.halves.low < c.halves.high = c.halves-test.true in
    let asked = c.before-in-halves.ensures in
    let below = asked.answer.0 c.if-before.true in
    record {
      order = omega arith;
      inside = omega arith;
      cut = asked.cut ∙ c.halves.invariant.cut;
      low = rw asked.cut (omega arith);
      high = rw asked.cut c.halves.invariant.high;
      few = rw asked.asked (IsHalved-next _ _ (c.halves.high - c.halves.low) _ _ (omega arith) (omega arith) c.halves.invariant.few);
    }

pub halves-preserved : goal.halves-preserved
halves-preserved g c =
    let left : c.halves.low < c.halves.high = c.halves-test.true in
    let asked = c.before-in-halves.ensures in
    record {
      order = omega arith;
      inside = omega arith;
      cut = asked.cut ∙ c.halves.invariant.cut;
      low = rw asked.cut c.halves.invariant.low;
      high = rw asked.cut (grind (arith, asked.answer));
      few = rw asked.asked (IsHalved-next _ _ (c.halves.high - c.halves.low) _ _ (omega arith) (omega arith) c.halves.invariant.few);
    }
