use Rattle.std.proofs.Common.{◌≡◌, take, arith}
use Rattle.git_index.proofs.Common.{common_is}
use Rattle.git_index.proofs.write.common_len_of.Goals as goal

pub returns-then-one-at-clause-len : goal.returns-then-one-at-clause-len
returns-then-one-at-clause-len c =
    common_is c.args.one.now c.args.other.now c.loop-at.at (omega (arith, c.min-most.ensures, c.loop-at-test.true)) (omega (arith, c.min-most.ensures, c.loop-at-test.true)) c.loop-at.invariant
    (λ l m. c.if-one-at.true)

pub returns-clause-len : goal.returns-clause-len
returns-clause-len c =
    let ended : c.loop-at.at ≡ c.min-most.result = omega (arith, c.loop-at.auto.at-end, c.loop-at-test.false) in
    let same : take c.min-most.result c.args.one.now ≡ take c.min-most.result c.args.other.now = rw ended at c.loop-at.invariant in
    common_is c.args.one.now c.args.other.now c.min-most.result (omega (arith, c.min-most.ensures)) (omega (arith, c.min-most.ensures)) same
    (λ l m. absurd (omega (arith, c.min-most.ensures, l, m)))
