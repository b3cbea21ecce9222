use Rattle.std.proofs.Common.{◌≡◌, ◌≤◌, ◌+◌, ◌*◌, length, map, drop}
use Rattle.git_attributes.specs.States.{assigned}
use Rattle.git_attributes.specs.Views.{given_of, macro_view}
use Rattle.git_attributes.proofs.assignment.+give.Given as goal

abbrev pub decreases-give : goal.decreases-give
decreases-give l = 2 * l.depth + 1

abbrev pub decreases-give_macro : goal.decreases-give_macro
decreases-give_macro l = 2 * l.depth

abbrev pub invariant-give-given : goal.invariant-give-given
invariant-give-given l = record {
  states : map given_of l.known.items ≡ assigned (map macro_view l.macros) l.depth (map given_of (drop l.at l.given)) (map given_of l.fn.known.items);
  inside : l.at ≤ length l.given;
}

abbrev pub decreases-give-given : goal.decreases-give-given
decreases-give-given l = l.at
