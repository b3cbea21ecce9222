-- The code's rules as the definitions have them.
use Rattle.std.specs.Prelude.{List, map}
use Rattle.git_patterns.specs.Views.{pattern_parts}
use Rattle.git_ignore.specs.Rules.{Rule}
use Rattle.git_ignore.specs.declared.rule.Rule.{Rule as RuleType}
use Rattle.git_ignore.specs.declared.rules.IgnoreRules.{IgnoreRules}

-- A rule of the code as a rule of the definitions.
abbrev pub rule_view : RuleType → Rule
rule_view r = record { folder = r.folder.items; negated = r.negated; only_folders = r.only_folders; by_name = r.by_name; parts = pattern_parts r.pattern }

-- The rules of the code.
abbrev pub rules_view : IgnoreRules → List Rule
rules_view r = map rule_view r.rules.items
