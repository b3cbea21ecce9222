use Rattle.std.proofs.Common.{◌≡◌, length}
use Rattle.git_pathspecs.specs.Words.{no_magic, signs_of}
use Rattle.git_pathspecs.proofs.magic.signs_of.Given as goal

abbrev pub invariant-signs : goal.invariant-signs
invariant-signs l = signs_of l.magic l.rest ≡ signs_of no_magic l.signs

abbrev pub decreases-signs : goal.decreases-signs
decreases-signs l = length l.rest
