use Rattle.status_base.proofs.ListedOnce.{listed_once_law}
use Rattle.status_base.proofs.stack.laws.directories_are_listed_once.Goals as goal

pub returns : goal.returns
returns c = λ qs. listed_once_law qs
