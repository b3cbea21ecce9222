use Rattle.std.proofs.Common.{◌≡◌, length, map}
use Rattle.std.specs.Option.{option_map, option_or}
use Rattle.git_attributes.specs.States.{macro_named}
use Rattle.git_attributes.specs.Views.{given_of, macro_view}
use Rattle.git_attributes.proofs.assignment.macro_named.Given as goal

abbrev pub invariant-macros : goal.invariant-macros
invariant-macros l = option_or (macro_named (map macro_view l.rest) l.name) (option_map (λ given. map given_of given.now) l.found) ≡ macro_named (map macro_view l.macros) l.name

abbrev pub decreases-macros : goal.decreases-macros
decreases-macros l = length l.rest
