-- Faults that mean that nothing is at a path.
use Rattle.std.specs.Prelude.{Bool, true, false}
use Rattle.status_index.specs.declared.fault.Fault.{Fault}
use Rattle.status_index.specs.declared.fault.Fault.TheVariants.{NotFound, NotADirectory}

-- Whether a fault means that nothing is at the path: nothing is found, or a component above it isn't a directory.
abbrev pub is_absence : Fault → Bool
is_absence NotFound = true
is_absence NotADirectory = true
is_absence f = false
