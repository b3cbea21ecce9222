use Rattle.std.proofs.Common.{◌≡◌, ◌++◌, length, map}
use Rattle.git_ignore.specs.Rules.{rules_of}
use Rattle.git_ignore.specs.Views.{rule_view}
use Rattle.git_ignore.proofs.Lines.{rules_left}
use Rattle.git_ignore.proofs.rules.rules_of.Given as goal

abbrev pub invariant-lines : goal.invariant-lines
invariant-lines l = map rule_view l.rules.items ++ rules_left l.folder l.rest ≡ rules_of l.folder l.bytes

abbrev pub decreases-lines : goal.decreases-lines
decreases-lines l = length l.rest
