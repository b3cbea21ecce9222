-- The pieces that workers finished, compared with what their seats know.
use Rattle.std.specs.Prelude.{◌≡◌, ℕ, ◌+◌, Bool, true, List, [], ◌∷◌, ◌++◌, length, All, Option, None, Some, Result, Ok, Err, Vec, vec_len}
use Rattle.status_board.specs.Numbers.{times}
use Rattle.status_board.specs.Seats.{BoardId, SeatState, fresh, drawn_of, barred_of, reported_of}
use Rattle.status_board.specs.declared.gathered.Gathered.{Gathered}
use Rattle.status_board.specs.declared.work.Finished.{Finished}
use Rattle.status_board.specs.declared.work.Worked.{Worked}
use Rattle.status_board.specs.FinishedPieces.{outs_at, shorts_of}

-- A call doesn't change the seat's board, the numbers that it drew, and whether it is done.
pub record StaysDrawn (old new : SeatState) : Type 0 where
  pub board : new.board ≡ old.board
  pub drawn : new.drawn ≡ old.drawn
  pub done : new.done ≡ old.done

-- All seats together: each drew until no number was left, each number was finished or barred, and exactly the short ones were
-- reported.
pub record AreAccounted {O : Type 0} (short : O → Bool) (board : BoardId) (seats : List SeatState) (fs : List (Finished O)) : Type 0 where
  pub boards : All (λ s. s.board ≡ board) seats
  pub done : All (λ s. s.done ≡ true) seats
  pub drawn : (n : ℕ) → times n (drawn_of seats) ≡ length (outs_at n fs) + times n (barred_of seats)
  pub reported : reported_of seats ≡ shorts_of short fs

module _ {O : Type 0} (gives : ℕ → O → Type 0) (short : O → Bool) where
  -- Each number that the seat drew was finished, was barred or is pending, and exactly the short ones were reported.
  pub record Accounts (pending : List ℕ) (seat : SeatState) (fs : List (Finished O)) : Type 0 where
    pub drawn : (n : ℕ) → times n seat.drawn ≡ length (outs_at n fs) + times n seat.barred + times n pending
    pub reported : seat.reported ≡ shorts_of short fs
    pub each : All (λ f. gives f.number f.out) fs

  -- A worker drew until no number was left.
  pub record IsWorked (board : BoardId) (worked : Worked O) : Type 0 where
    pub board_is : worked.seat.board ≡ board
    pub done : worked.seat.done ≡ true
    pub accounts : Accounts [] worked.seat worked.finished.items

  -- These are the results and seats of this many workers.
  pub record IsBrought (board : BoardId) (workers : ℕ) (brought : Gathered O) : Type 0 where
    pub accounted : AreAccounted short board brought.seats.items brought.finished.items
    pub each : All (λ f. gives f.number f.out) brought.finished.items
    pub all : vec_len brought.seats ≡ workers

-- There are no results and no seats yet.
abbrev pub IsNothing : {O : Type 0} → Gathered O → Type 0
IsNothing brought = (brought.seats.items ≡ []) × (brought.finished.items ≡ []) × (vec_len brought.seats ≡ 0)

-- The results and seats of other workers and of one more, if none ran out of memory.
abbrev pub IsBoth : {O E : Type 0} → Result (Gathered O) E → Result (Worked O) E → Result (Gathered O) E → Type 0
IsBoth (Ok others) (Ok one) (Ok all) = (all.seats.items ≡ others.seats.items ++ one.seat ∷ []) × (all.finished.items ≡ others.finished.items ++ one.finished.items) × (vec_len all.seats ≡ vec_len others.seats + 1)
IsBoth (Ok others) (Err e) (Ok all) = ⊥
IsBoth (Err e) one (Ok all) = ⊥
IsBoth others one (Err e) = Unit {0}

-- This many workers may start: each has a fresh seat, and a state that fits.
pub record AreReady {S A B : Type 0} (board : BoardId) (fits : S → Type 0) (workers : ℕ) (seats : Vec SeatState A) (states : Vec S B) : Type 0 where
  pub seats_all : vec_len seats ≡ workers
  pub states_all : vec_len states ≡ workers
  pub seats_fresh : All (λ s. s ≡ fresh board) seats.items
  pub states_fit : All fits states.items

-- How many results there are: up to the least reported piece, or all.
abbrev pub end_of : Option ℕ → ℕ → ℕ
end_of None pieces = pieces
end_of (Some least) pieces = least + 1
