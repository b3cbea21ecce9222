-- A filter that removes carriage returns.
use Rattle.std.specs.Prelude.{ℕ, ◌==◌, not, Bool, List, Option, Some, None}
use Rattle.std.specs.List.{filter}
use Rattle.status_index.specs.declared.fault.Fault.{Fault}
use Rattle.status_base.specs.Conversions.{Conversion, refused, other}

-- whether a byte isn't a carriage return
abbrev pub is_no_return : ℕ → Bool
is_no_return byte = not (byte == 13)

-- the file's fault, or its bytes without carriage returns
abbrev pub without_returns : List ℕ → Option Fault → Conversion
without_returns bytes None = other (filter is_no_return bytes)
without_returns bytes (Some f) = refused f
