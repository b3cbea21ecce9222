use Rattle.std.proofs.Common.{◌≡◌, ◌≤◌, length, map, drop}
use Rattle.git_attributes.specs.States.{states_by}
use Rattle.git_attributes.specs.Views.{given_of, macro_view, rule_view}
use Rattle.git_attributes.proofs.attributes.Attributes.states_of.Given as goal

abbrev pub invariant-rules : goal.invariant-rules
invariant-rules l = record {
  states : map given_of l.known.items ≡ states_by (map macro_view l.self.macros.items) (map rule_view (drop l.at l.self.rules.items)) l.path;
  inside : l.at ≤ length l.self.rules.items;
}

abbrev pub decreases-rules : goal.decreases-rules
decreases-rules l = l.at
