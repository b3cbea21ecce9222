-- A known output grows by a text, or by a beginning of it if it can't be written.
use Rattle.std.specs.Prelude.{◌≡◌, ℕ, List, ◌++◌, Option, Result, Ok, Err}
use Rattle.std.specs.Io.KnownBytes.{Appends}

-- The bytes of an output grew by a beginning of a text. Of an output whose bytes aren't known nothing is claimed.
pub record IsBegun (text : List ℕ) (old new : Option (List ℕ)) : Type 0 where
  pub printed : List ℕ
  pub grew : Appends old new printed
  pub beginning : (rest : List ℕ) × (printed ++ rest ≡ text)

-- The output grew by a text; or it can't be written, and it grew by a beginning of the text.
abbrev pub IsWritten : {T E : Type 0} → List ℕ → Option (List ℕ) → Result T E → Option (List ℕ) → Type 0
IsWritten text old (Ok _) new = Appends old new text
IsWritten text old (Err _) new = IsBegun text old new
