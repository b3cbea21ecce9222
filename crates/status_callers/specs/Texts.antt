-- Submodules that all have the same result.
use Rattle.std.specs.Prelude.{ℕ, List, Option, Result, Ok, Err}
use Rattle.std.specs.Borrow.{Bor}

-- the change, or the bytes of the failure's text
abbrev pub answer_of : Result (Option ℕ) (Bor (List ℕ)) → Result (Option ℕ) (List ℕ)
answer_of (Ok change) = Ok change
answer_of (Err text) = Err text.now
