use Rattle.status_board.proofs.board.Board.barred.Given as goal

-- the look is for this piece
abbrev pub ghosts-look : goal.ghosts-look
ghosts-look a = record { piece = a.piece }
