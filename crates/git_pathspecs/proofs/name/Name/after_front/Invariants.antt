use Rattle.std.proofs.Common.{◌≡◌, length}
use Rattle.git_pathspecs.specs.Names.{after_front, name_of}
use Rattle.git_pathspecs.proofs.name.Name.after_front.Given as goal

abbrev pub invariant-front : goal.invariant-front
invariant-front l = after_front l.cased (name_of l.rest) (name_of l.front) ≡ after_front l.fn.cased (name_of l.fn.self) (name_of l.fn.front)

abbrev pub decreases-front : goal.decreases-front
decreases-front l = length (name_of l.front)
