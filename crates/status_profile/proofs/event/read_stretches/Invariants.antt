-- The rest of the list, after the stretches that were read, says the same as the whole list.
use Rattle.std.proofs.Common.{◌≡◌, [], map, drop}
use Rattle.serde_json.specs.View.{items_view}
use Rattle.status_profile.specs.Events.{event_value, stretch_values, stretches_from}
use Rattle.status_profile.proofs.Stretches.{stretches_onto}
use Rattle.status_profile.proofs.event.read_stretches.Given as goal

abbrev pub invariant-loop-event : goal.invariant-loop-event
invariant-loop-event l =
    stretches_onto (stretch_values l.stretches) (map event_value l.stretch.items) (items_view (drop l.event-index l.event-items))
    ≡ stretches_from [] (items_view l.event-items)
