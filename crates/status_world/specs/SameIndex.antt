-- What opening an index in a world returns and leaves.
use Rattle.std.specs.Prelude.{◌≡◌, List, Result, Ok, Err}
use Rattle.status_index.specs.declared.stat.Moment.{Moment}
use Rattle.status_index.specs.Entries.{IndexEntry}
use Rattle.status_world.specs.declared.world.event.Refusal.{Refusal}
use Rattle.status_world.specs.declared.world.event.Refusal.TheVariants.{OtherIndex}
use Rattle.status_world.specs.StampedWorld.{StampedWorld}

-- Two indexes have the same entries, and were written at the same moment.
abbrev pub IsSameIndex : List IndexEntry → Moment → List IndexEntry → Moment → Type 0
IsSameIndex es t others u = (t ≡ u) × (es ≡ others)

-- Both have the same entries and timestamp.
-- So the index replaces the world's own; any other index is refused. In both cases the world's value is unchanged.
abbrev pub IsIndexReplaced : {A : Type 0} → List IndexEntry → Moment → StampedWorld → Result A Refusal → StampedWorld → Type 0
IsIndexReplaced es t old (Ok _) new = IsSameIndex old.entries old.timestamp es t × (new ≡ old)
IsIndexReplaced es t old (Err r) new =
    (r ≡ OtherIndex) × (IsSameIndex old.entries old.timestamp es t → ⊥) × (new ≡ old)
