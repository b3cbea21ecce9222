-- The contents and fields of events.
use Rattle.std.specs.Prelude.{ℕ, List, [], ◌∷◌}
use Rattle.std.specs.List.{flat_map}
use Rattle.status_world.specs.declared.world.event.Event.{Event}
use Rattle.status_world.specs.declared.world.event.Event.TheVariants as events
use Rattle.status_world.specs.declared.world.event.Run.{Run}

-- The contents of an event: the bytes of a written file, or the target of a link.
abbrev pub contents_at : Event → List (List ℕ)
contents_at (events.Write path bytes) = bytes.items ∷ []
contents_at (events.Link path target) = target.items ∷ []
contents_at (events.Tick n) = []
contents_at (events.TickNanos n) = []
contents_at (events.SetExecutable path executable) = []
contents_at (events.Remove path) = []
contents_at (events.Stage path) = []
contents_at (events.Run comparer chunk_size thread_limit stamp) = []

-- The event of a run with these fields.
abbrev pub run_event : Run → Event
run_event run = events.Run run.comparer run.chunk_size run.thread_limit run.stamp

-- The contents of all events, in order.
abbrev pub contents_of_events : List Event → List (List ℕ)
contents_of_events es = flat_map contents_at es
