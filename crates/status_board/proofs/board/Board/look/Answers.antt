use Rattle.std.proofs.Common.{◌≡◌, ap, ◌∙◌, sym, arith}
use Rattle.status_board.specs.Seats.{BoardState}
use Rattle.status_board.specs.declared.rules.Limits.{Limits}
use Rattle.status_board.proofs.Steps.{looks}
use Rattle.status_board.proofs.board.Board.look.Goals as goal

pub load-requires : goal.load-requires
load-requires g c =
    let key = c.self.inside.table.shared.key in
    let words = c.self.invariant.1 in
    let pieces : key.pieces ≡ c.args.self.now.id.pieces = ap (λ (l : Limits). l.pieces) c.self.invariant.0 ∙ ap (λ (b : BoardState). b.id.pieces) c.self.view_is in
    let within = c.requires.piece in (
      c.requires.board ∙ sym (ap (λ (b : BoardState). b.id.table) c.self.view_is),
      omega arith,
      looks key.pieces key.seats c.self.inside.table.shared.table_id.slots c.args.token.now.id c.args.token.now.me g.N.ForPiece.piece (omega arith),
    )
