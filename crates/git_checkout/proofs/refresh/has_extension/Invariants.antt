use Rattle.std.proofs.Common.{length}
use Rattle.git_checkout.proofs.refresh.has_extension.Given as goal

abbrev pub decreases-extensions : goal.decreases-extensions
decreases-extensions l = length l.rest
