-- The line of a failure, and the failure of an output.
use Rattle.std.specs.Prelude.{◌≡◌, ℕ, List, [], ◌∷◌, ◌++◌, codes, Option}
use Rattle.text_output.specs.Written.{IsBegun}
use Rattle.text_output.specs.declared.OutputError.{OutputError}
use Rattle.git_status.specs.declared.failure.Failure.{Failure}
use Rattle.git_status.specs.declared.failure.Failure.TheVariants.{Output}

-- The output takes no more.
abbrev pub IsUnwritten : Failure → Type 0
IsUnwritten failure = (error : OutputError) × (failure ≡ Output error)

-- A line of these words.
abbrev pub fault_line : List ℕ → List ℕ
fault_line words = codes "git dirty: " ++ (words ++ 10 ∷ [])

-- A beginning of one line was written, with the words for the failure.
abbrev pub IsFaultLine : Option (List ℕ) → Option (List ℕ) → Type 0
IsFaultLine old new = (words : List ℕ) × IsBegun (fault_line words) old new
