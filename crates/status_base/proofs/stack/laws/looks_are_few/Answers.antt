use Rattle.status_base.proofs.LooksLemmas.{looks_law}
use Rattle.status_base.proofs.stack.laws.looks_are_few.Goals as goal

pub returns : goal.returns
returns c = λ modelled lstat old new qs. looks_law modelled lstat old new qs
