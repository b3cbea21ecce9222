use Rattle.std.proofs.Common.{◌∙◌, sym, arith}
use Rattle.git_ignore.specs.Views.{rule_view, rules_view}
use Rattle.git_ignore.specs.Excluded.{last_for}
use Rattle.git_ignore.proofs.Deciding.{decides, goes_on}
use Rattle.git_ignore.proofs.rules.IgnoreRules.is_matched.Goals as goal

pub returns-then-branch : goal.returns-then-branch
returns-then-branch c =
    let whole = last_for (rules_view c.args.self.now) c.args.path.now c.args.is_folder in
    decides c.args.path.now c.args.is_folder rule_view c.args.self.now.rules.items c.rules.at c.rules-test.true c.rules.invariant.inside c.index-rule.result.now (sym c.index-rule.ensures) whole
    c.rules.invariant.same (sym c.in_ok-is_for.ensures ∙ c.if-branch.true)

pub rules-preserved : goal.rules-preserved
rules-preserved c =
    let whole = last_for (rules_view c.args.self.now) c.args.path.now c.args.is_folder in
    record {
      same = goes_on c.args.path.now c.args.is_folder rule_view c.args.self.now.rules.items c.rules.at c.rules-test.true c.rules.invariant.inside c.index-rule.result.now (sym c.index-rule.ensures) whole
          c.rules.invariant.same (sym c.in_ok-is_for.ensures ∙ c.if-branch.false);
      inside = omega (arith, c.rules.invariant.inside);
    }
