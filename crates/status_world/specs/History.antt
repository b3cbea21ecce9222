-- Histories: accepted events, their reports, and the plain worlds at their runs.
use Rattle.std.specs.Prelude.{◌≡◌, ◌⊎◌, ◌↔◌, ℕ, Bool, List, [], ◌∷◌, ◌++◌, length, map, take, drop, Option, Some, None, ⊤}
use Rattle.std.specs.FinMap as paths
use Rattle.status_index.specs.declared.id.HashKind.{HashKind}
use Rattle.status_index.specs.BlobId.{blob_id}
use Rattle.status_world.specs.declared.world.event.Event.{Event}
use Rattle.status_world.specs.declared.world.event.Event.TheVariants as events
use Rattle.status_world.specs.declared.world.event.Refusal.{Refusal}
use Rattle.status_world.specs.Events.{contents_of_events}
use Rattle.status_world.specs.PlainWorld.{PlainWorld, plain_after, DiffersAt}
use Rattle.status_world.specs.Refusals.{refusal_of, IsRefused}
use Rattle.status_world.specs.Reports.{RunReport, changed_paths}
use Rattle.status_world.specs.Sound.{IsSound}
use Rattle.status_world.specs.StampedWorld.{StampedWorld, after_event, report_of, plain_of}

-- A value is in a list.
abbrev pub IsIn : {A : Type 0} → A → List A → Type 0
IsIn x [] = ⊥
IsIn x (y ∷ ys) = (x ≡ y) ⊎ IsIn x ys

-- No event of the list has a refusal that is due.
abbrev pub AreAccepted : List Event → StampedWorld → Type 0
AreAccepted [] w = ⊤
AreAccepted (e ∷ es) w = (refusal_of e w ≡ None) × AreAccepted es (after_event e w)

-- The world after the events.
abbrev pub after_events : List Event → StampedWorld → StampedWorld
after_events [] w = w
after_events (e ∷ es) w = after_events es (after_event e w)

-- The report of an event: one for a run, none for other events.
abbrev pub reports_at : Event → StampedWorld → List RunReport
reports_at (events.Run comparer chunk_size thread_limit stamp) w = report_of w comparer ∷ []
reports_at _ w = []

-- The reports of the runs, in order.
abbrev pub reports_of : List Event → StampedWorld → List RunReport
reports_of [] w = []
reports_of (e ∷ es) w = reports_at e w ++ reports_of es (after_event e w)

-- The plain world of an event: one for a run, none for other events.
abbrev pub plain_at : Event → PlainWorld → List PlainWorld
plain_at (events.Run comparer chunk_size thread_limit stamp) p = p ∷ []
plain_at _ p = []

-- The plain worlds at the runs, in order.
abbrev pub plains_of : List Event → PlainWorld → List PlainWorld
plains_of [] p = []
plains_of (e ∷ es) p = plain_at e p ++ plains_of es (plain_after e p)

-- The changed paths are exactly the staged paths that differ.
abbrev pub IsExact : Bool → RunReport → PlainWorld → Type 0
IsExact executable_bit report p = (path : List ℕ) → IsIn path (changed_paths report) ↔ DiffersAt executable_bit p path

-- Each report is exact for the plain world at its run.
abbrev pub AreExact : Bool → List RunReport → List PlainWorld → Type 0
AreExact x [] [] = ⊤
AreExact x (r ∷ rs) (p ∷ ps) = IsExact x r p × AreExact x rs ps
AreExact x _ _ = ⊥

-- The plain world of a stamped world: its nodes without stats, and what was staged.
abbrev pub plain_world_of : StampedWorld → PlainWorld
plain_world_of w = record {
  files = paths.from_entries (map (λ e. (e.0, plain_of e.1)) (paths.entries w.tree.nodes));
  staged = w.staged;
}

-- ---- all contents

-- The contents of the world's nodes, of what was staged and of the events, and the empty content.
abbrev pub contents_at_hand : StampedWorld → List Event → List (List ℕ)
contents_at_hand w es =
    map (λ n. n.bytes) (paths.values w.tree.nodes)
    ++ map (λ s. s.bytes) (paths.values w.staged)
    ++ contents_of_events es
    ++ [] ∷ []

-- Contents with equal ids are equal.
abbrev pub HaveDistinctIds : HashKind → List (List ℕ) → Type 0
HaveDistinctIds kind contents = (a b : List ℕ) → IsIn a contents → IsIn b contents → blob_id kind a ≡ blob_id kind b → a ≡ b

-- The contents of nodes, of what was staged, of accepted events and the empty one are equal if their ids are.
abbrev pub HasDistinctContents : StampedWorld → List Event → Type 0
HasDistinctContents w es = HaveDistinctIds w.kind (contents_at_hand w es)

-- ---- a replay

-- How many events were accepted.
abbrev pub accepted_count : List Event → Option (ℕ × Refusal) → ℕ
accepted_count es None = length es
accepted_count es (Some stop) = stop.0

-- The events that were accepted.
abbrev pub accepted_of : List Event → Option (ℕ × Refusal) → List Event
accepted_of es stopped = take (accepted_count es stopped) es

-- Why the replay ended: there are no more events, or the next one was refused.
abbrev pub IsStop : List Event → StampedWorld → Option (ℕ × Refusal) → Type 0
IsStop rest w None = rest ≡ []
IsStop [] w (Some stop) = ⊥
IsStop (e ∷ rest) w (Some stop) = IsRefused stop.1 e w

-- The accepted events, their reports, and the world after them.
-- They are the first events of the list. The next one, if there is one, was refused.
pub record IsReplay (w : StampedWorld) (es : List Event) (final : StampedWorld) (reports : List RunReport) (stopped : Option (ℕ × Refusal)) : Type 0 where
  pub accepted : AreAccepted (accepted_of es stopped) w
  pub world : final ≡ after_events (accepted_of es stopped) w
  pub reported : reports ≡ reports_of (accepted_of es stopped) w
  pub stop : IsStop (drop (accepted_count es stopped) es) final stopped

-- No change is missed: each report is exact, and the world's index can still be trusted.
pub record IsExactReplay (w : StampedWorld) (es : List Event) (final : StampedWorld) (reports : List RunReport) (stopped : Option (ℕ × Refusal)) : Type 0 where
  pub exact : AreExact w.executable_bit reports (plains_of (accepted_of es stopped) (plain_world_of w))
  pub sound : IsSound final

-- The history theorem.
-- No change is missed if the index could be trusted at the start, and contents with equal ids are equal.
abbrev pub IsExactIfSound : StampedWorld → List Event → StampedWorld → List RunReport → Option (ℕ × Refusal) → Type 0
IsExactIfSound w es final reports stopped = IsSound w → HasDistinctContents w (accepted_of es stopped) → IsExactReplay w es final reports stopped
