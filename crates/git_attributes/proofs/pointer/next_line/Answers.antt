use Rattle.std.proofs.Common.{◌≡◌, ◌∙◌, ◌==◌, true, false, length, sym, arith}
use Rattle.git_attributes.proofs.PointerLines.{line_shorter, lines_end, lines_more, lines_skip}
use Rattle.git_attributes.proofs.pointer.next_line.Goals as goal

pub returns-then-not-is_empty-clause-lines : goal.returns-then-not-is_empty-clause-lines
returns-then-not-is_empty-clause-lines c =
    let filled : (length c.in-Some.line.now == 0) ≡ false = grind arith in
    sym c.lines.invariant.lines ∙ lines_more c.lines.rest.now c.in-Some.line.now c.in-Some.after.now (sym c.in-Some.ensures) filled

pub lines-preserved : goal.lines-preserved
lines-preserved c =
    let empty : (length c.in-Some.line.now == 0) ≡ true = grind arith in record {
      lines = sym (lines_skip c.lines.rest.now c.in-Some.line.now c.in-Some.after.now (sym c.in-Some.ensures) empty) ∙ c.lines.invariant.lines;
      less = omega (arith, line_shorter c.lines.rest.now c.in-Some.line.now c.in-Some.after.now (sym c.in-Some.ensures));
    }

pub returns-clause-lines : goal.returns-clause-lines
returns-clause-lines c = sym c.lines.invariant.lines ∙ lines_end c.lines.rest.now (sym c.in_default.ensures)
