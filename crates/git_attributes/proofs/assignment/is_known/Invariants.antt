use Rattle.std.proofs.Common.{◌≡◌, length, map}
use Rattle.git_attributes.specs.States.{is_known}
use Rattle.git_attributes.specs.Views.{given_of}
use Rattle.git_attributes.proofs.assignment.is_known.Given as goal

abbrev pub invariant-known : goal.invariant-known
invariant-known l = is_known l.name (map given_of l.rest) ≡ is_known l.name (map given_of l.known)

abbrev pub decreases-known : goal.decreases-known
decreases-known l = length l.rest
