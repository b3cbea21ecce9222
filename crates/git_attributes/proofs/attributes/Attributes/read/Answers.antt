use Rattle.std.proofs.Common.{◌∙◌, length, sym, ap}
use Rattle.git_patterns.proofs.Items.{all}
use Rattle.git_attributes.specs.Files.{line_step, with_any_line, with_lines}
use Rattle.git_attributes.specs.Views.{attributes_view}
use Rattle.git_attributes.proofs.Lines.{lines_more}
use Rattle.git_attributes.proofs.attributes.Attributes.read.Goals as goal

pub lines-preserved-in_ok-add : goal.lines-preserved-in_ok-add
lines-preserved-in_ok-add c =
    let s = c.args.source in let said = attributes_view c.lines.self in let behind = c.in-Some.after.now in
    ap (with_lines s.has_macros s.folder.now (all length line_step behind).0) (c.in_ok-add.ensures ∙ ap (with_any_line s.has_macros said) (rw c.in-Some-2.is at c.in_ok-said.ensures))
    ∙ (sym (lines_more s.has_macros s.folder.now said c.lines.rest.now c.in-Some.line.now behind (sym c.in-Some.ensures)) ∙ c.lines.invariant)

pub lines-preserved : goal.lines-preserved
lines-preserved c =
    let s = c.args.source in let said = attributes_view c.lines.self in let behind = c.in-Some.after.now in
    ap (with_lines s.has_macros s.folder.now (all length line_step behind).0) (ap (with_any_line s.has_macros said) (rw c.in_default-2.is at c.in_ok-said.ensures))
    ∙ (sym (lines_more s.has_macros s.folder.now said c.lines.rest.now c.in-Some.line.now behind (sym c.in-Some.ensures)) ∙ c.lines.invariant)
