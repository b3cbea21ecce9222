use Rattle.std.proofs.Common.{◌∙◌, map, sym, ap}
use Rattle.std.proofs.lemmas.List.{take-map}
use Rattle.git_ignore.specs.Views.{rule_view}
use Rattle.git_ignore.proofs.rules.IgnoreRules.truncate.Goals as goal

pub returns : goal.returns
returns c = ap (map rule_view) c.truncate.ensures.items ∙ sym (take-map rule_view c.args.count c.args.self.now.rules.items)
