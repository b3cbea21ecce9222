-- A placeholder: the result of reading a list of pairs past its end.
use Rattle.std.proofs.Common.{false}
use Rattle.status_rewrites.specs.declared.tracker.Pair.{Pair}

abbrev pub blank : Pair
blank = record { source = 0; destination = 0; copy = false }
