-- The specified result of reading a blob.
use Rattle.std.specs.Prelude.{◌≡◌, ◌⊎◌, ℕ, List, Result, Ok, Err}
use Rattle.std.specs.Borrow.{Bor}
use Rattle.status_compare.specs.declared.error.Error.{Error}
use Rattle.status_compare.specs.declared.error.Error.TheVariants.{Memory}

-- The specified bytes, the specified error, or out of memory.
abbrev pub IsBlob : Result (List ℕ) Error → Result (Bor (List ℕ)) Error → Type 0
IsBlob specified (Ok bytes) = specified ≡ Ok bytes.now
IsBlob specified (Err e) = (specified ≡ Err e) ⊎ (e ≡ Memory)
