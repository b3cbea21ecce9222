use Rattle.std.proofs.Common.{ℕ, IfOk, subst, ◌∙◌}
use Rattle.status_board.specs.Round.{IsRound}
use Rattle.status_board.specs.declared.round.Refused.TheVariants.{Memory}
use Rattle.status_board.proofs.Results.{if_ok_kept}
use Rattle.status_board.proofs.Rounds.{round_of_results}
use Rattle.status_board.proofs.round.work_round.Goals as goal

pub returns-in-Ok-work_together-clause-round : goal.returns-in-Ok-work_together-clause-round
returns-in-Ok-work_together-clause-round g c =
    let gives = g.K.Work.gives c.args.work.now in
    let short = g.K.Work.short in
    let gathered = c.in-Ok-work_together.gathered in
    let round = round_of_results gives short c.in-Ok.made.0.id.pieces gathered.finished.items c.in-Ok-work_together.ensures.brought.each c.finish.result c.finish.ensures in
    if_ok_kept (λ outs. IsRound gives short (g.K.Work.count c.args.work.now) outs.items) c.finish.result c.or_refused.result Memory c.or_refused.ensures.ok c.or_refused.ensures.err (subst (λ (n : ℕ). IfOk c.finish.result (λ outs. IsRound gives short n outs.items)) (c.in-Ok.ensures.0 ∙ c.pieces.ensures) round)
