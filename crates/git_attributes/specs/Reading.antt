-- Results that are computed from all bytes of a file.
use Rattle.std.specs.Prelude.{◌≡◌, ◌⊎◌, List, ℕ, Option, Some, None, Result, Ok, Err, ⊤}
use Rattle.status_index.specs.Content.{Content}
use Rattle.status_index.specs.Given.{MayGive}
use Rattle.status_index.specs.declared.fault.Fault.{Fault}
use Rattle.status_index.specs.declared.fault.Fault.TheVariants.{Memory}

-- Of a known content the result is that of all its bytes, the fault after them, or out of memory.
abbrev pub IsOfAll : {T : Type 0} → (List ℕ → T → Type 0) → Option Content → Result T Fault → Type 0
IsOfAll Is None result = ⊤
IsOfAll Is (Some content) (Ok x) = Is content.bytes x × (content.fault ≡ None)
IsOfAll Is (Some content) (Err f) = (content.fault ≡ Some f) ⊎ (f ≡ Memory)

-- The result is that of all bytes of a content that the file may give, the fault after them, or out of memory.
abbrev pub IsOfGiven : {T : Type 0} → (List ℕ → T → Type 0) → MayGive → Result T Fault → Type 0
IsOfGiven Is may (Ok x) = (bytes : List ℕ) × Is bytes x × may (record { bytes = bytes; fault = None })
IsOfGiven Is may (Err f) = (f ≡ Memory) ⊎ ((bytes : List ℕ) × may (record { bytes = bytes; fault = Some f }))
