use Rattle.std.proofs.Common.{◌≡◌, length, map}
use Rattle.git_patterns.specs.Styles.{styled_step}
use Rattle.git_patterns.specs.Views.{part_of}
use Rattle.git_patterns.proofs.Items.{after, all}
use Rattle.git_patterns.proofs.Leaving.{lens}
use Rattle.git_patterns.proofs.wildcards.Wildcards.of.Given as goal

abbrev pub invariant-pieces : goal.invariant-pieces
invariant-pieces l = after (map part_of l.pieces.items) (all lens (styled_step l.style) (l.at_name, l.rest)) ≡ all lens (styled_step l.style) (l.style.parts_names, l.fn.text)

abbrev pub decreases-pieces : goal.decreases-pieces
decreases-pieces l = length l.rest
