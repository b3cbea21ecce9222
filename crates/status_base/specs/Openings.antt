-- Which results opening a file and reading a link may have, in a worktree that is modelled or not.
use Rattle.std.specs.Prelude.{◌≡◌, ◌⊎◌, ℕ, List, Result, Ok, Err}
use Rattle.status_index.specs.Content.{Content}
use Rattle.status_index.specs.Given.{MayGive, IsKnownOrCut}
use Rattle.status_index.specs.declared.fault.Fault.{Fault}
use Rattle.status_index.specs.declared.fault.Fault.TheVariants.{Memory}

-- Which contents may be read of a file that is opened, and which faults opening it may have.
abbrev pub MayOpen : Type 1
MayOpen = Result Content Fault → Type 0

-- An opened file may have only contents that may be read. A fault is one that opening may have.
abbrev pub IsOpenedSeen : {F : Type 0} → (F → MayGive) → MayOpen → Result F Fault → Type 0
IsOpenedSeen gives may (Ok file) = (content : Content) → gives file content → may (Ok content)
IsOpenedSeen gives may (Err f) = may (Err f)

-- The target in the buffer, or the fault, is a result that reading the link may have.
abbrev pub IsTargetSeen : {A : Type 0} → (Result (List ℕ) Fault → Type 0) → Result A Fault → List ℕ → Type 0
IsTargetSeen may (Ok _) target = may (Ok target)
IsTargetSeen may (Err f) target = may (Err f)

-- What opening may have if its result is known: this result, or memory runs out, also after some of the bytes.
abbrev pub IsKnownOpening : Result Content Fault → MayOpen
IsKnownOpening (Ok known) (Ok content) = IsKnownOrCut known content
IsKnownOpening (Err f) (Ok content) = ⊥
IsKnownOpening known (Err f) = (known ≡ Err f) ⊎ (f ≡ Memory)
