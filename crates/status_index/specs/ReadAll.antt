-- Reading to the end.
use Rattle.std.specs.Prelude.{◌≡◌, ℕ, ◌⊎◌, List, [], ◌++◌, Option, Some, None, Result, Ok, Err, ⊤}
use Rattle.status_index.specs.declared.fault.Fault.{Fault}
use Rattle.status_index.specs.declared.fault.Fault.TheVariants.{Memory}
use Rattle.status_index.specs.Content.{Content}

-- No bytes are left, and no fault.
abbrev pub nothing_left : Content
nothing_left = record { bytes = []; fault = None }

-- Reading to the end appends all bytes, and returns the fault after them, if any.
-- An Ok leaves no bytes. An error may also be out of memory, of which no more is claimed.
abbrev pub ReadsAll : Option Content → Option Content → List ℕ → List ℕ → Result (Unit {0}) Fault → Type 0
ReadsAll None new before after r = ⊤
ReadsAll (Some l) new before after (Ok _) = (after ≡ before ++ l.bytes) × (l.fault ≡ None) × (new ≡ Some nothing_left)
ReadsAll (Some l) new before after (Err f) = ((l.fault ≡ Some f) × (after ≡ before ++ l.bytes)) ⊎ (f ≡ Memory)
