use Rattle.std.proofs.Common.{◌≡◌, ◌+◌, ◌-◌, [], replicate}
use Rattle.status_board.specs.Seats.{fresh}
use Rattle.status_board.specs.Shared.{known}
use Rattle.status_board.proofs.board.Board.new.Given as goal

-- each turn splits one seat off the token
abbrev pub invariant-loop : goal.invariant-loop
invariant-loop l = record {
  table : l.token.table_id ≡ l.table.shared.table_id;
  token : l.token.me ≡ (known l.pieces (l.seats + 1 - l.counter) [] [] [] 0, []);
  seats : l.all.items ≡ replicate (l.counter - 1) (fresh record { table = l.table.shared.table_id; pieces = l.pieces });
}
