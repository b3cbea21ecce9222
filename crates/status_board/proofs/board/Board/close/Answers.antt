use Rattle.std.proofs.Common.{◌≡◌, ℕ, All, Option, length, ap, ◌∙◌, sym, subst, arith}
use Rattle.std.specs.Slots.{slots_items}
use Rattle.status_board.specs.declared.board.Tally.{Tally}
use Rattle.status_board.specs.Numbers.{HasEachBelow, IsLeast, LiesBelow}
use Rattle.status_board.specs.Seats.{BoardId, BoardState, SeatState, drawn_of, barred_of, reported_of}
use Rattle.status_board.proofs.Cuts.{joins}
use Rattle.status_board.proofs.Hands.{Hand, begins, next_board, ended, words_say, some_done}
use Rattle.status_board.proofs.board.Board.close.Goals as goal

pub loop-seat-init : goal.loop-seat-init
loop-seat-init c =
    let id : BoardId = record { table = c.self.inside.table.shared.table_id; pieces = c.self.inside.pieces } in
    let view : id ≡ c.args.self.id = ap (λ (b : BoardState). b.id) c.self.view_is in
    let boards = subst (λ (b : BoardId). All (λ (s : SeatState). s.board ≡ b) c.args.seats.items) (sym view) c.requires in
    begins id c.args.seats.items c.pop.new.self.items c.in_ok-token.field-0 c.token.inside.token.table_id c.token.inside.token.me c.token.inside.last c.token.inside.done boards c.in_ok-token.ensures.items c.token.invariant c.token.view_is

pub join_seat-requires : goal.join_seat-requires
join_seat-requires c =
    let id : BoardId = record { table = c.self.inside.table.shared.table_id; pieces = c.self.inside.pieces } in
    let view : id ≡ c.args.self.id = ap (λ (b : BoardState). b.id) c.self.view_is in
    let boards = subst (λ (b : BoardId). All (λ (s : SeatState). s.board ≡ b) c.args.seats.items) (sym view) c.requires in
    let g = c.loop-seat.invariant in
    let board = next_board id id.table id.pieces c.args.seats.items c.loop-seat.seats.items c.pop-in-loop-seat.new.self.items c.in-Some.seat c.loop-seat.token.table_id c.loop-seat.token.me boards g c.in-Some.ensures.items in
    let parts = ap (λ (m : Hand). m.0.parts) g.me_is in
    let some_part = g.some_part in
    let words = c.self.invariant.1 in
    let key = c.self.inside.table.shared.key in (
      g.table_is,
      ap (λ (s : SeatState). s.board.table) c.seat.view_is ∙ ap (λ (b : BoardId). b.table) board,
      c.seat.invariant.empty,
      omega arith,
      joins key.pieces key.seats c.loop-seat.token.id c.loop-seat.token.me.0 c.seat.inside.token.id c.seat.inside.token.me.0 (omega arith),
    )

pub returns-clause-drawn : goal.returns-clause-drawn
returns-clause-drawn c =
    let all = c.args.seats.items in
    let inside = c.self.inside in
    let gone = c.in_default.ensures.cases.0 in
    let left = c.loop-seat.seats.ok.0 in
    let none_left : length c.loop-seat.seats.items ≡ 0 = omega arith in
    let me = ended inside.table.shared.table_id inside.pieces all c.loop-seat.seats.items c.loop-seat.token.table_id c.loop-seat.token.me c.loop-seat.invariant none_left in
    let came = c.len.ensures in
    let counted = c.if-len-self.false in
    let length_is = c.args.seats.ok.0 in
    let whole : length all ≡ inside.seats = omega arith in
    let closed = c.close_with-closed in
    let t = words_say inside.table.shared.key inside.pieces inside.seats c.self.invariant.0 all c.loop-seat.token.id c.loop-seat.token.me me whole (slots_items closed.result.words) (slots_items closed.result.slots) closed.ensures.values.2 c.word-next.result c.word-least.result c.word-next.ensures c.word-least.ensures in
    let drawn = ap (λ (r : Tally). r.drawn) c.counted.ensures in
    let pieces = ap (λ (b : BoardState). b.id.pieces) c.self.view_is in
    (omega arith, subst (λ (k : ℕ). HasEachBelow k (drawn_of all)) (sym drawn) t.drawn)

pub returns-clause-least : goal.returns-clause-least
returns-clause-least c =
    let all = c.args.seats.items in
    let inside = c.self.inside in
    let gone = c.in_default.ensures.cases.0 in
    let left = c.loop-seat.seats.ok.0 in
    let none_left : length c.loop-seat.seats.items ≡ 0 = omega arith in
    let me = ended inside.table.shared.table_id inside.pieces all c.loop-seat.seats.items c.loop-seat.token.table_id c.loop-seat.token.me c.loop-seat.invariant none_left in
    let came = c.len.ensures in
    let counted = c.if-len-self.false in
    let length_is = c.args.seats.ok.0 in
    let whole : length all ≡ inside.seats = omega arith in
    let closed = c.close_with-closed in
    let t = words_say inside.table.shared.key inside.pieces inside.seats c.self.invariant.0 all c.loop-seat.token.id c.loop-seat.token.me me whole (slots_items closed.result.words) (slots_items closed.result.slots) closed.ensures.values.2 c.word-next.result c.word-least.result c.word-next.ensures c.word-least.ensures in
    let least = ap (λ (r : Tally). r.least_reported) c.counted.ensures in
    subst (λ (o : Option ℕ). IsLeast o (reported_of all)) (sym least) t.least

pub returns-clause-barred : goal.returns-clause-barred
returns-clause-barred c =
    let all = c.args.seats.items in
    let inside = c.self.inside in
    let gone = c.in_default.ensures.cases.0 in
    let left = c.loop-seat.seats.ok.0 in
    let none_left : length c.loop-seat.seats.items ≡ 0 = omega arith in
    let me = ended inside.table.shared.table_id inside.pieces all c.loop-seat.seats.items c.loop-seat.token.table_id c.loop-seat.token.me c.loop-seat.invariant none_left in
    let came = c.len.ensures in
    let counted = c.if-len-self.false in
    let length_is = c.args.seats.ok.0 in
    let whole : length all ≡ inside.seats = omega arith in
    let closed = c.close_with-closed in
    let t = words_say inside.table.shared.key inside.pieces inside.seats c.self.invariant.0 all c.loop-seat.token.id c.loop-seat.token.me me whole (slots_items closed.result.words) (slots_items closed.result.slots) closed.ensures.values.2 c.word-next.result c.word-least.result c.word-next.ensures c.word-least.ensures in
    let least = ap (λ (r : Tally). r.least_reported) c.counted.ensures in
    subst (λ (o : Option ℕ). All (LiesBelow o) (barred_of all)) (sym least) t.barred

pub returns-clause-done : goal.returns-clause-done
returns-clause-done c = λ some_are_done.
    let all = c.args.seats.items in
    let inside = c.self.inside in
    let gone = c.in_default.ensures.cases.0 in
    let left = c.loop-seat.seats.ok.0 in
    let none_left : length c.loop-seat.seats.items ≡ 0 = omega arith in
    let me = ended inside.table.shared.table_id inside.pieces all c.loop-seat.seats.items c.loop-seat.token.table_id c.loop-seat.token.me c.loop-seat.invariant none_left in
    let came = c.len.ensures in
    let counted = c.if-len-self.false in
    let length_is = c.args.seats.ok.0 in
    let whole : length all ≡ inside.seats = omega arith in
    let closed = c.close_with-closed in
    let t = words_say inside.table.shared.key inside.pieces inside.seats c.self.invariant.0 all c.loop-seat.token.id c.loop-seat.token.me me whole (slots_items closed.result.words) (slots_items closed.result.slots) closed.ensures.values.2 c.word-next.result c.word-least.result c.word-next.ensures c.word-least.ensures in
    let through = t.through (some_done all some_are_done) in
    let drawn = ap (λ (r : Tally). r.drawn) c.counted.ensures in
    let pieces = ap (λ (b : BoardState). b.id.pieces) c.self.view_is in
    omega arith
