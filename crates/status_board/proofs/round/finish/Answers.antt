use Rattle.std.proofs.Common.{◌≡◌, ◌<◌, subst, ℕ, IfOk, length, arith}
use Rattle.status_board.specs.FinishedPieces.{IsInOrder}
use Rattle.status_board.proofs.Rounds.{end_inside, finished_once, round_of, some_done}
use Rattle.status_board.proofs.round.finish.Goals as goal

pub end-requires : goal.end-requires
end-requires g c =
    let t = c.in-Some.tally in
    let gathered = c.args.gathered in
    let inside = end_inside g.K.Work.short c.args.board.id gathered.seats.items gathered.finished.items c.requires.accounted t.drawn c.in-Some.ensures.drawn.1 t.least_reported c.in-Some.ensures.least in
    omega (arith, c.in-Some.ensures.drawn.0)

pub in_order-requires : goal.in_order-requires
in_order-requires g c n l =
    let t = c.in-Some.tally in
    let gathered = c.args.gathered in
    finished_once g.K.Work.short c.args.board.id gathered.seats.items gathered.finished.items c.requires.accounted t.drawn c.in-Some.ensures.drawn.1 t.least_reported c.in-Some.ensures.least c.in-Some.ensures.barred n (subst (λ (k : ℕ). n < k) c.end.ensures l)

pub returns : goal.returns
returns g c =
    let t = c.in-Some.tally in
    let gathered = c.args.gathered in
    let some : 0 < length gathered.seats.items = omega (arith, gathered.seats.ok.0, c.requires.all, c.requires.some) in
    let all_drawn : t.drawn ≡ c.args.board.id.pieces = c.in-Some.ensures.done (some_done gathered.seats.items some c.requires.accounted.done) in
    let ordered = subst (λ (k : ℕ). IfOk c.in_order.result (λ outs. IsInOrder gathered.finished.items k outs.items)) c.end.ensures c.in_order.ensures in
    round_of g.K.Work.short c.args.board.id gathered.seats.items gathered.finished.items c.requires.accounted t.drawn c.in-Some.ensures.drawn.1 t.least_reported c.in-Some.ensures.least c.in-Some.ensures.barred c.args.board.id.pieces c.in_order.result all_drawn ordered
