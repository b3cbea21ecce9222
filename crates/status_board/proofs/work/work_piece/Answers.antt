use Rattle.std.proofs.Common.{[], ◌∷◌}
use Rattle.status_board.specs.declared.work.Finished.{Finished}
use Rattle.status_board.proofs.Accounting.{accounts_barred, accounts_finished, accounts_same}
use Rattle.status_board.proofs.work.work_piece.Goals as goal

pub returns-then-barred-clause-accounts : goal.returns-then-barred-clause-accounts
returns-then-barred-clause-accounts g c =
    accounts_barred (g.K.Work.gives c.args.work.now) g.K.Work.short c.args.worked.now.seat c.barred.new.seat c.args.number c.args.worked.now.finished.items (c.barred.ensures.barred c.if-barred.true) c.requires.accounts

pub returns-clause-accounts : goal.returns-clause-accounts
returns-clause-accounts g c =
    let gives = g.K.Work.gives c.args.work.now in
    let fs = c.args.worked.now.finished.items in
    let f : Finished g.row.K-Out.Denot = record { number = c.args.number; out = c.piece-out.result } in
    let a = accounts_same gives g.K.Work.short c.args.worked.now.seat c.barred.new.seat (c.args.number ∷ []) fs (c.barred.ensures.clear c.if-barred.false) c.requires.accounts in
    rw c.in_ok-push.ensures.items (accounts_finished gives g.K.Work.short c.barred.new.seat c.report_short.new.seat f fs c.piece-out.ensures.gives a c.report_short.ensures)
