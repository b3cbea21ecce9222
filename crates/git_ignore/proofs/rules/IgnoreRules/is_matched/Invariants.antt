use Rattle.std.proofs.Common.{◌≡◌, ◌≤◌, length, map, take}
use Rattle.git_ignore.specs.Excluded.{last_for}
use Rattle.git_ignore.specs.Views.{rule_view, rules_view}
use Rattle.git_ignore.proofs.rules.IgnoreRules.is_matched.Given as goal

abbrev pub invariant-rules : goal.invariant-rules
invariant-rules l = record {
  same : last_for (map rule_view (take l.at l.self.rules.items)) l.path l.is_folder ≡ last_for (rules_view l.self) l.path l.is_folder;
  inside : l.at ≤ length l.self.rules.items;
}

abbrev pub decreases-rules : goal.decreases-rules
decreases-rules l = l.at
