use Rattle.git_objects.proofs.Octal.{more_digits}
use Rattle.git_objects.proofs.tree.octal_number.Goals as goal

pub digits-preserved : goal.digits-preserved
digits-preserved c = more_digits c.args.digits.now c.digits.digit-index c.digits.number c.in-Some.number c.digits-test.true c.digits.invariant c.in-Some.ensures.value c.in-Some.ensures.octal
