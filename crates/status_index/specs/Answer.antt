-- Results that are as specified, except when memory runs out.
use Rattle.std.specs.Prelude.{◌≡◌, ◌⊎◌, Result, Err}
use Rattle.status_index.specs.declared.fault.Fault.{Fault}
use Rattle.status_index.specs.declared.fault.Fault.TheVariants.{Memory}

-- A result is the specified one, or out of memory.
abbrev pub IsAnswer : {A : Type 0} → Result A Fault → Result A Fault → Type 0
IsAnswer specified answer = (answer ≡ specified) ⊎ (answer ≡ Err Memory)
