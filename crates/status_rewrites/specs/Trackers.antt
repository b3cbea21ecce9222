-- The results that a tracker may return.
use Rattle.std.specs.Prelude.{ℕ, List, Result, Ok, Err, ⊤}
use Rattle.std.specs.Global.{Vec}
use Rattle.status_rewrites.specs.declared.tracker.Pair.{Pair}
use Rattle.status_rewrites.specs.declared.tracker.TrackerError.{TrackerError}
use Rattle.status_rewrites.specs.declared.tracker.TrackerError.TheVariants.{BadPair, Refused, Memory}

-- Why a tracker returns no pairs, besides out of memory.
pub data TrackerFault : Type 0 where
  bad_pair : ℕ → TrackerFault
  refused : ℕ → TrackerFault

-- A result that the specification allows, or out of memory.
abbrev pub IsSpecifiedAnswer : (Result (List Pair) TrackerFault → Type 0) → Result (Vec Pair) TrackerError → Type 0
IsSpecifiedAnswer specified (Ok pairs) = specified (Ok pairs.items)
IsSpecifiedAnswer specified (Err (BadPair at)) = specified (Err (bad_pair at))
IsSpecifiedAnswer specified (Err (Refused code)) = specified (Err (refused code))
IsSpecifiedAnswer specified (Err Memory) = ⊤
