use Rattle.std.proofs.Common.{◌≡◌, ◌∙◌, arith}
use Rattle.std.proofs.lemmas.List.Elements.{All-pop}
use Rattle.status_board.specs.Seats.{SeatState, fresh}
use Rattle.status_board.proofs.crew.Crew.start.Goals as goal

pub loop-state-preserved : goal.loop-state-preserved
loop-state-preserved g c =
    let crew = c.args.self.now in
    let ready = c.loop-state.invariant.0 in
    let states_len = c.in-Some.ensures.len in
    let seats_len = c.in-Some-pop.ensures.len in
    let handles_len = c.in_ok-keep-in-Ok.ensures.len in (
      record {
        seats_all = omega (arith, ready.seats_all);
        states_all = omega arith;
        seats_fresh = (All-pop (λ (s : SeatState). s ≡ fresh crew.board.now.id) c.loop-state.seats.items c.pop-in-Some.new.self.items c.pop-in-Some.result c.pop-in-Some.ensures.items ready.seats_fresh).0;
        states_fit = (All-pop (g.K.Work.fits crew.work.now) c.loop-state.states.items c.pop.new.self.items c.pop.result c.pop.ensures.items ready.states_fit).0;
      },
      omega (arith, c.loop-state.invariant.1),
      c.keep.ensures.of ∙ c.loop-state.invariant.2,
    )
