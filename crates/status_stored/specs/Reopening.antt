-- Replays of stretches of events, between which the index is stored and opened again.
use Rattle.std.specs.Prelude.{ℕ, ◌+◌, ◌<◌, List, [], ◌∷◌, ◌++◌, length, take, Option, Some, None, Vec, ⊤}
use Rattle.std.specs.List.{slice_index_or}
use Rattle.std.specs.declared.alloc.Global.{Global}
use Rattle.status_stored.specs.declared.replay.Stop.{Stop}
use Rattle.status_stored.specs.declared.replay.Stop.TheVariants as stops
use Rattle.status_stored.specs.Storable.{IsNotUtf8At}
use Rattle.status_world.specs.declared.world.event.Event.{Event}
use Rattle.status_world.specs.declared.world.event.Refusal.{Refusal}
use Rattle.status_world.specs.declared.world.event.Refusal.TheVariants as refusals
use Rattle.status_world.specs.History.{AreExact, HasDistinctContents, IsExactIfSound, IsReplay, plain_world_of, plains_of}
use Rattle.status_world.specs.Reports.{RunReport}
use Rattle.status_world.specs.Sound.{IsFormed, IsSound}
use Rattle.status_world.specs.StampedWorld.{StampedWorld}

-- The events of these stretches, in order.
abbrev pub events_in : List (Vec Event Global) → List Event
events_in [] = []
events_in (s ∷ ss) = s.items ++ events_in ss

-- Why an index can't be opened again: out of memory or, in a formed world, a path that isn't UTF-8.
abbrev pub IsOpeningRefusal : StampedWorld → Refusal → Type 0
IsOpeningRefusal w refusals.Memory = ⊤
IsOpeningRefusal w refusals.OtherIndex = IsFormed w → (at : ℕ) × IsNotUtf8At w.entries at
IsOpeningRefusal w _ = ⊥

-- The positions of a stretch and of an event in it.
abbrev pub IsPlaceIn : List (Vec Event Global) → ℕ → ℕ → Type 0
IsPlaceIn ss stretch at = (stretch < length ss) × ((d : Vec Event Global) → at < length (slice_index_or ss stretch d).items)

-- A history with reopenings leaves what a replay of its events leaves without them.
-- These are all events, or those up to a refused one, or those before a stretch whose opening is refused. If memory runs out
-- for a stretch's reports, the reports are those of the stretches before it. The world is then the one that a replay of the
-- stretch leaves after them.
abbrev pub IsReopenedReplay : StampedWorld → List (Vec Event Global) → StampedWorld → List RunReport → Option Stop → Type 0
IsReopenedReplay w ss final reports None = IsReplay w (events_in ss) final reports None
IsReopenedReplay w ss final reports (Some (stops.Event stretch at refusal)) =
    IsPlaceIn ss stretch at × IsReplay w (events_in ss) final reports (Some (length (events_in (take stretch ss)) + at, refusal))
IsReopenedReplay w ss final reports (Some (stops.Opening stretch refusal)) =
    (0 < stretch) × (stretch < length ss) × IsReplay w (events_in (take stretch ss)) final reports None × IsOpeningRefusal final refusal
IsReopenedReplay w ss final reports (Some (stops.Reports stretch)) =
    (stretch < length ss) × (before : StampedWorld) × IsReplay w (events_in (take stretch ss)) before reports None
    × (lost : List RunReport) × (stopped : Option (ℕ × Refusal))
    × ((d : Vec Event Global) → IsReplay before (slice_index_or ss stretch d).items final lost stopped)

-- The reports of these stretches are exact, and the world's index can be trusted.
pub record IsExactUpTo (w : StampedWorld) (ss : List (Vec Event Global)) (final : StampedWorld) (reports : List RunReport) : Type 0 where
  pub exact : AreExact w.executable_bit reports (plains_of (events_in ss) (plain_world_of w))
  pub sound : IsSound final

-- No change is missed, as in a replay without reopenings. If memory runs out for a stretch's reports, the reports before it
-- are exact. Then contents with equal ids have to be equal, also those of the stretch's events.
abbrev pub IsExactIfReopened : StampedWorld → List (Vec Event Global) → StampedWorld → List RunReport → Option Stop → Type 0
IsExactIfReopened w ss final reports None = IsExactIfSound w (events_in ss) final reports None
IsExactIfReopened w ss final reports (Some (stops.Event stretch at refusal)) =
    IsExactIfSound w (events_in ss) final reports (Some (length (events_in (take stretch ss)) + at, refusal))
IsExactIfReopened w ss final reports (Some (stops.Opening stretch refusal)) = IsExactIfSound w (events_in (take stretch ss)) final reports None
IsExactIfReopened w ss final reports (Some (stops.Reports stretch)) =
    IsSound w → HasDistinctContents w (events_in (take (stretch + 1) ss)) → IsExactUpTo w (take stretch ss) final reports
