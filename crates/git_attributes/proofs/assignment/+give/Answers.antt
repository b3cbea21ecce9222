use Rattle.std.proofs.Common.{◌∙◌, map, sym, arith}
use Rattle.git_attributes.specs.Views.{given_of, macro_view}
use Rattle.git_attributes.proofs.Giving.{assigned_known, assigned_start}
use Rattle.git_attributes.proofs.assignment.+give.Goals as goal

pub give-given-init : goal.give-given-init
give-given-init t c = record {
  states = assigned_start given_of (map macro_view c.args.macros.now) c.args.depth c.args.given.now (map given_of c.args.known.now.items);
  inside = omega arith;
}

pub give-given-preserved : goal.give-given-preserved
give-given-preserved t c = record {
  states = assigned_known given_of (map macro_view c.args.macros.now) c.args.depth c.args.given.now c.given.at _ (map given_of c.args.known.now.items) (map given_of c.given.known.items) c.given-test.true c.given.invariant.inside c.given.invariant.states
      (sym (sym c.if-not-is_known.false ∙ rw c.deref.ensures.value at c.is_known.ensures));
  inside = omega (arith, c.given.invariant.inside);
}
