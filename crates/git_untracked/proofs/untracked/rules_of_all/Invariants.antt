use Rattle.std.proofs.Common.{◌≡◌, ◌++◌, length}
use Rattle.git_ignore.specs.Views.{rules_view}
use Rattle.git_untracked.specs.Untracked.{outer_rules}
use Rattle.git_untracked.proofs.untracked.rules_of_all.Given as goal

abbrev pub invariant-files : goal.invariant-files
invariant-files l = rules_view l.rules ++ outer_rules l.rest ≡ outer_rules l.initial.rest

abbrev pub decreases-files : goal.decreases-files
decreases-files l = length l.rest
