use Rattle.std.proofs.Common.{sym, ◌∙◌, subst, inl, inr, arith}
use Rattle.std.proofs.lemmas.Bool.{cases_eq}
use Rattle.status_call.specs.Considered.{part_entries}
use Rattle.status_call.specs.Pieces.{IsCut}
use Rattle.status_call.proofs.IndexOrder.{cut_between, not_cut}
use Rattle.status_call.proofs.ConsideredParts.{part_is_index}
use Rattle.status_call.proofs.index_as_worktree.piece.piece_end.Goals as goal

pub loop-end-preserved : goal.loop-end-preserved
loop-end-preserved c =
    let es = part_entries c.args.considered.now in
    let here = c.loop-end.invariant in
    record {
      more = omega (arith, here.more);
      within = omega arith;
      full = omega (arith, here.full);
      tight = λ k a b l cut.
          elim (cases_eq k c.loop-end.end) [
            | inl e ↦
                not_cut es c.loop-end.end (omega (arith, here.more)) (omega arith) (λ d. sym (c.same_path.ensures d) ∙ c.if-same_path.true)
                (subst (λ n. IsCut es n) e cut)
            | inr other ↦ here.tight k a b (omega arith) cut
          ];
    }

pub returns-else-same_path-clause-cut : goal.returns-else-same_path-clause-cut
returns-else-same_path-clause-cut c =
    cut_between (part_entries c.args.considered.now) c.loop-end.end (part_is_index c.args.considered.now) (omega arith) (omega arith) (λ d. sym (c.same_path.ensures d) ∙ c.if-same_path.false)
