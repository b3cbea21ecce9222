-- The conversion of a file that is to be stored.
use Rattle.std.specs.Prelude.{ℕ, List}
use Rattle.status_index.specs.declared.fault.Fault.{Fault}

-- A filter keeps a file unchanged, returns other bytes, or fails.
pub data Conversion : Type 0 where
  refused : Fault → Conversion
  same : Conversion
  other : List ℕ → Conversion
