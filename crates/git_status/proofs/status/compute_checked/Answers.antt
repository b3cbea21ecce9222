use Rattle.std.proofs.Common.{◌≡◌, true}
use Rattle.git_status.proofs.status.compute_checked.Goals as goal

pub returns-then-is_right-clause-checked : goal.returns-then-is_right-clause-checked
returns-then-is_right-clause-checked g c = c.join-is_right.ensures.first.0 c.if-is_right.true

pub returns-clause-wrong : goal.returns-clause-wrong
returns-clause-wrong g c = λ none summed.
    let right : c.join-is_right.result.0 ≡ true = c.join-is_right.ensures.first.1 summed in absurd cc
