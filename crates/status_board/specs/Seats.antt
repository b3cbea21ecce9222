-- The states of a board and of its seats, as contracts see them.
use Rattle.std.specs.Prelude.{ℕ, Bool, false, List, [], ◌∷◌, ◌++◌}
use Rattle.atomic_table.specs.Seated.{TableId}

-- Which board it is, and how many pieces it has.
pub record BoardId : Type 0 where
  pub table : TableId
  pub pieces : ℕ

-- A board with the number of its seats.
pub record BoardState : Type 0 where
  pub id : BoardId
  pub seats : ℕ

-- A seat's board, the numbers it drew, found barred and reported, and whether none was left. Each list is in order of time.
pub record SeatState : Type 0 where
  pub board : BoardId
  pub drawn : List ℕ
  pub barred : List ℕ
  pub reported : List ℕ
  pub done : Bool

-- A seat that wasn't used yet.
abbrev pub fresh : BoardId → SeatState
fresh id = record { board = id; drawn = []; barred = []; reported = []; done = false }

-- The numbers that the seats drew, one seat after another.
abbrev pub drawn_of : List SeatState → List ℕ
drawn_of [] = []
drawn_of (s ∷ ss) = s.drawn ++ drawn_of ss

-- The numbers that the seats found barred, one seat after another.
abbrev pub barred_of : List SeatState → List ℕ
barred_of [] = []
barred_of (s ∷ ss) = s.barred ++ barred_of ss

-- The numbers that the seats reported, one seat after another.
abbrev pub reported_of : List SeatState → List ℕ
reported_of [] = []
reported_of (s ∷ ss) = s.reported ++ reported_of ss
