-- The history theorem for histories that begin with an empty world.
use Rattle.std.specs.Prelude.{ℕ, Bool, List, [], ◌∷◌, ◌++◌, Option}
use Rattle.status_index.specs.declared.id.HashKind.{HashKind}
use Rattle.status_index.specs.declared.stat.Moment.{Moment}
use Rattle.status_index.specs.declared.stat.Options.{Options}
use Rattle.status_world.specs.declared.world.event.Event.{Event}
use Rattle.status_world.specs.declared.world.event.Refusal.{Refusal}
use Rattle.status_world.specs.Events.{contents_of_events}
use Rattle.status_world.specs.History.{plains_of, AreExact, HaveDistinctIds, accepted_of, IsReplay}
use Rattle.status_world.specs.PlainWorld.{empty_plain}
use Rattle.status_world.specs.Reports.{RunReport}
use Rattle.status_world.specs.Sound.{IsFormed, IsSound}
use Rattle.status_world.specs.StampedWorld.{StampedWorld, empty_world}

-- The changed paths of each report are exactly the staged paths that differ at its run, and the index can be trusted at the
-- end.
pub record MissesNoChange (executable_bit : Bool) (accepted : List Event) (reports : List RunReport) (final : StampedWorld) : Type 0 where
  pub exact : AreExact executable_bit reports (plains_of accepted empty_plain)
  pub formed : IsFormed final
  pub sound : IsSound final

-- The history theorem.
-- A replay from an empty world misses no change, if contents with equal ids are equal: those of the accepted events, and the
-- empty one.
abbrev pub ReplayLaw : HashKind → Options → Bool → Moment → Moment → Type 0
ReplayLaw kind options executable_bit clock timestamp =
    (es : List Event) (final : StampedWorld) (reports : List RunReport) (stopped : Option (ℕ × Refusal))
    → IsReplay (empty_world kind options executable_bit clock timestamp) es final reports stopped
    → HaveDistinctIds kind (contents_of_events (accepted_of es stopped) ++ [] ∷ [])
    → MissesNoChange executable_bit (accepted_of es stopped) reports final
