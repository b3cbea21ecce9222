use Rattle.std.proofs.Common.{◌≡◌, length, map}
use Rattle.git_patterns.proofs.Items.{after, all}
use Rattle.git_attributes.specs.Assignments.{assignment_at}
use Rattle.git_attributes.specs.Views.{given_of}
use Rattle.git_attributes.proofs.assignment.assignments_of.Given as goal

abbrev pub invariant-words : goal.invariant-words
invariant-words l = after (map given_of l.given.items) (all length assignment_at l.rest) ≡ all length assignment_at l.text

abbrev pub decreases-words : goal.decreases-words
decreases-words l = length l.rest
