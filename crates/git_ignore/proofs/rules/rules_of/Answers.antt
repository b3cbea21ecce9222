use Rattle.std.proofs.Common.{◌≡◌, ◌∙◌, ◌++◌, length, map, subst, sym, ap}
use Rattle.std.proofs.lemmas.List.{map_push}
use Rattle.git_patterns.proofs.Items.{shorter}
use Rattle.git_ignore.specs.Rules.{line_step, rules_of}
use Rattle.git_ignore.specs.Views.{rule_view}
use Rattle.git_ignore.proofs.Lines.{line_added, line_leaves, line_read, rules_left}
use Rattle.git_ignore.proofs.rules.rules_of.Goals as goal

pub lines-smaller : goal.lines-smaller
lines-smaller c = shorter length line_step line_leaves c.lines.rest.now (c.in-Some.line.now, c.in-Some.after.now) (sym c.in-Some.ensures)

pub lines-preserved-in_ok-push : goal.lines-preserved-in_ok-push
lines-preserved-in_ok-push c =
    let folder = c.args.folder.now in let whole = rules_of folder c.args.bytes.now in let rule = c.in-Some-2.rule in let behind = c.in-Some.after.now in
    subst (λ rules. rules ++ rules_left folder behind ≡ whole) (sym (ap (map rule_view) c.in_ok-push.ensures.items ∙ map_push rule_view c.lines.rules.items rule))
    (line_added folder c.lines.rest.now c.in-Some.line.now behind (rule_view rule) (map rule_view c.lines.rules.items) whole c.lines.invariant (sym c.in-Some.ensures) (sym (rw c.in-Some-2.is at c.in_ok-rule.ensures)))

pub lines-preserved : goal.lines-preserved
lines-preserved c =
    let folder = c.args.folder.now in
    line_read folder c.lines.rest.now c.in-Some.line.now c.in-Some.after.now _ (map rule_view c.lines.rules.items) (rules_of folder c.args.bytes.now) c.lines.invariant (sym c.in-Some.ensures) (sym (rw c.in_default-2.is at c.in_ok-rule.ensures))
