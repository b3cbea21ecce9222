use Rattle.std.proofs.Common.{◌≡◌, ◌+◌, ◌∙◌, ℕ, IfOk, subst, vec_len, arith}
use Rattle.status_board.specs.Accounts.{IsBrought}
use Rattle.status_board.specs.declared.crew.Brings.{Brings}
use Rattle.status_board.specs.declared.round.Refused.TheVariants.{Memory}
use Rattle.status_board.proofs.Accounting.{brought_more}
use Rattle.status_board.proofs.Results.{if_ok_kept}
use Rattle.status_board.proofs.crew.Crew.work_in_scope.Goals as goal

pub returns : goal.returns
returns g c =
    let crew = c.args.self.now in
    let gives = g.K.Work.gives crew.work.now in
    let short = g.K.Work.short in
    let id = crew.board.now.id in
    let seats = crew.board.now.seats in
    let n = vec_len c.start.new.started.handles in
    let all : n + 1 ≡ seats = omega (arith, c.in_default-start.ensures.all, c.in-Some-pop.ensures.len, c.requires.ready.states_all, c.requires.some) in
    let others : IfOk c.join_all-2.result (IsBrought gives short id n) =
    subst (λ (p : Brings g.row.K.Denot). IfOk c.join_all-2.result (IsBrought (g.K.Work.gives p.work.now) short p.board.now.id n)) (c.start.ensures.of ∙ c.none-started.ensures.of) c.join_all-2.ensures in
    let together = brought_more gives short id n c.join_all-2.result c.work_through-own.result c.gather.result c.gather.ensures others c.work_through-own.ensures in
    if_ok_kept (IsBrought gives short id seats) c.gather.result c.or_refused.result Memory c.or_refused.ensures.ok c.or_refused.ensures.err (subst (λ (k : ℕ). IfOk c.gather.result (IsBrought gives short id k)) all together)
