use Rattle.std.proofs.Common.{◌+◌, map, drop, sym, ap, ◌∙◌}
use Rattle.serde_json.specs.View.{items_view}
use Rattle.status_profile.specs.Events.{event_value, stretch_values}
use Rattle.status_stored.proofs.Fronts.{first_item}
use Rattle.status_profile.proofs.Stretches.{stretches_onto, turn_event, turn_reopened}
use Rattle.status_profile.proofs.event.read_stretches.Goals as goal
use Rattle.status_profile.proofs.event.read_stretches.Goals.{then-is_reopening+in_ok-push, else-is_reopening+in_ok-read_event+in_ok-push-2}

pub loop-event-preserved : goal.loop-event-preserved
loop-event-preserved c =
    let l = c.loop-event in
    let vs = c.in_ok-event-items.event-items.now in
    let next = first_item vs l.event-index c.event-item.result c.loop-event-test.true c.event-item.is in
    let js = items_view (drop (l.event-index + 1) vs) in
    let parts = items_view c.in_ok-items.items.now in
    let held = ap (stretches_onto (stretch_values l.stretches) (map event_value l.stretch.items)) (sym next) ∙ l.invariant in
    elim c.if-is_reopening.branch [
      | then-is_reopening+in_ok-push w ↦
          turn_reopened l.stretches l.stretch _ js parts c.in_ok-items.ensures _ held (sym c.is_reopening.ensures ∙ w.if-is_reopening.true) w.replace.result w.replace.ensures.value c.if-is_reopening.stretches (ap (λ v. v.items) w.stretches-is ∙ w.in_ok-push.ensures.items) c.if-is_reopening.stretch (ap (λ v. v.items) w.stretch-is ∙ ap (λ v. v.items) w.replace.ensures.after ∙ w.new.ensures.items)
      | else-is_reopening+in_ok-read_event+in_ok-push-2 w ↦
          turn_event l.stretches l.stretch _ js parts c.in_ok-items.ensures _ held (sym c.is_reopening.ensures ∙ w.if-is_reopening.false) w.in_ok-read_event.field-0 w.in_ok-read_event.ensures c.if-is_reopening.stretches w.stretches-is c.if-is_reopening.stretch (ap (λ v. v.items) w.stretch-is ∙ w.in_ok-push-2.ensures.items)
    ]
