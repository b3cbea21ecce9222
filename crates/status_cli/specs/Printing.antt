-- A known output grows by a text, or by a beginning if it can't be written or memory runs out.
use Rattle.std.specs.Prelude.{◌≡◌, ◌⊎◌, ℕ, List, map, Option, Result, Ok, Err}
use Rattle.std.specs.Borrow.{Bor}
use Rattle.std.specs.List.{flat_map}
use Rattle.std.specs.Io.KnownBytes.{Appends}
use Rattle.text_output.specs.Written.{IsBegun}
use Rattle.status_cli.specs.declared.failure.Failure.{Failure}
use Rattle.status_cli.specs.declared.failure.Failure.TheVariants.{Output, Memory}

-- the output can't be written, or memory ran out
abbrev pub IsUnprinted : Failure → Type 0
IsUnprinted failure = (failure ≡ Output) ⊎ (failure ≡ Memory)

-- the output grew by a text; or, if it can't be written or memory runs out, by a beginning of it
abbrev pub IsPrinted : {T : Type 0} → List ℕ → Option (List ℕ) → Result T Failure → Option (List ℕ) → Type 0
IsPrinted text old (Ok _) new = Appends old new text
IsPrinted text old (Err failure) new = IsBegun text old new × IsUnprinted failure

-- the output grew by a text; or it can't be written, and it grew by a beginning of it
abbrev pub IsAllWritten : {T : Type 0} → List ℕ → Option (List ℕ) → Result T Failure → Option (List ℕ) → Type 0
IsAllWritten text old (Ok _) new = Appends old new text
IsAllWritten text old (Err failure) new = IsBegun text old new × (failure ≡ Output)

-- a result with what is made of its value, or with the same failure
abbrev pub result_map : {A B : Type 0} → (A → B) → Result A Failure → Result B Failure
result_map f (Ok x) = Ok (f x)
result_map f (Err failure) = Err failure

-- texts one after the other
abbrev pub spelled : List (Bor (List ℕ)) → List ℕ
spelled parts = flat_map (λ text. text) (map (λ part. part.now) parts)
