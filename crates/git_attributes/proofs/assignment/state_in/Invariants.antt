use Rattle.std.proofs.Common.{◌≡◌, length, map}
use Rattle.git_attributes.specs.States.{state_in}
use Rattle.git_attributes.specs.Views.{given_of}
use Rattle.git_attributes.proofs.assignment.state_in.Given as goal

abbrev pub invariant-known : goal.invariant-known
invariant-known l = state_in l.name (map given_of l.rest) ≡ state_in l.name (map given_of l.known)

abbrev pub decreases-known : goal.decreases-known
decreases-known l = length l.rest
