-- A stream has bytes of a file or of memory left, then its fault, and may count what it returns. Here are the errors that std's
-- readers report for its faults.
use Rattle.std.specs.Prelude.{◌≡◌, ◌⊎◌, ℕ, List, [], Option, Some, None, option_map}
use Rattle.std.specs.declared.io.ErrorKind.{ErrorKind}
use Rattle.std.specs.declared.io.ErrorKind.TheVariants as kinds
use Rattle.status_index.specs.declared.fault.Fault.{Fault}
use Rattle.status_index.specs.declared.fault.Fault.TheVariants as faults
use Rattle.status_index.specs.Content.{Content}

-- The bytes that are left, if they are known.
abbrev pub known_bytes : Option Content → Option (List ℕ)
known_bytes left = option_map (λ l. l.bytes) left

-- The kind of error that std's readers report for a fault.
abbrev pub kind_of : Fault → ErrorKind
kind_of faults.NotFound = kinds.NotFound
kind_of faults.NotADirectory = kinds.NotADirectory
kind_of faults.PermissionDenied = kinds.PermissionDenied
kind_of faults.Interrupted = kinds.Interrupted
kind_of faults.IllformedUtf8 = kinds.InvalidData
kind_of faults.UnexpectedEnd = kinds.UnexpectedEof
kind_of faults.NotNormal = kinds.InvalidData
kind_of faults.Memory = kinds.OutOfMemory
kind_of (faults.Other number) = kinds.Other

-- The kind of the fault after the bytes, if no bytes are left.
abbrev pub IsKindBehind : List ℕ → Option Fault → ErrorKind → Type 0
IsKindBehind bytes None kind = ⊥
IsKindBehind bytes (Some f) kind = (bytes ≡ []) × (kind ≡ kind_of f)

-- The kind of error that a read fails with: out of memory, or the fault after the bytes, if none are left.
abbrev pub IsKindOf : Content → ErrorKind → Type 0
IsKindOf l kind = (kind ≡ kinds.OutOfMemory) ⊎ IsKindBehind l.bytes l.fault kind
