-- The specified result of finding a blob.
use Rattle.std.specs.Prelude.{◌≡◌, ◌⊎◌, ℕ, List, Result, Ok, Err}
use Rattle.status_base.specs.declared.worktree.objects.FindError.{FindError}
use Rattle.status_base.specs.declared.worktree.objects.FindError.TheVariants.{Memory}

-- The buffer has the specified content, or the error is the specified one or out of memory.
abbrev pub IsFindAnswer : {A : Type 0} → Result (List ℕ) FindError → Result A FindError → List ℕ → Type 0
IsFindAnswer specified (Ok _) buffer = specified ≡ Ok buffer
IsFindAnswer specified (Err e) buffer = (specified ≡ Err e) ⊎ (e ≡ Memory)

-- The buffer's content, or the error, is a result that finding the blob may have.
abbrev pub IsFindSeen : {A : Type 0} → (Result (List ℕ) FindError → Type 0) → Result A FindError → List ℕ → Type 0
IsFindSeen may (Ok _) buffer = may (Ok buffer)
IsFindSeen may (Err e) buffer = may (Err e)
