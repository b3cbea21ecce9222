use Rattle.std.proofs.Common.{◌≡◌, length}
use Rattle.git_explain.specs.Sights.{result_at}
use Rattle.git_explain.proofs.sight.Sight.result_at.Given as goal

abbrev pub invariant-calls : goal.invariant-calls
invariant-calls l = result_at l.fn.self.calls.items l.fn.path ≡ result_at l.rest l.fn.path

abbrev pub decreases-calls : goal.decreases-calls
decreases-calls l = length l.rest
