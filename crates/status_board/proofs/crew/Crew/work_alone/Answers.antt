use Rattle.status_board.proofs.Accounting.{brought_more, brought_start}
use Rattle.status_board.proofs.crew.Crew.work_alone.Goals as goal

pub returns : goal.returns
returns g c =
    let gives = g.K.Work.gives c.args.self.now.work.now in
    let short = g.K.Work.short in
    let id = c.args.self.now.board.now.id in
    brought_more gives short id 0 c.nothing.result c.work_through-worked.result c.gather.result c.gather.ensures (brought_start gives short id c.nothing.result c.nothing.ensures) c.work_through-worked.ensures
