use Rattle.std.proofs.Common.{◌≡◌, [], ◌∷◌, ◌++◌, List, None, arith, length, map, subst, sym, take_all}
use Rattle.status_stored.specs.Reopening.{events_in}
use Rattle.status_world.specs.declared.world.event.Event.{Event}
use Rattle.status_world.specs.Events.{contents_of_events}
use Rattle.status_world.specs.History.{AreExact, HaveDistinctIds, accepted_of, plains_of}
use Rattle.status_world.specs.PlainWorld.{empty_plain}
use Rattle.status_world.specs.Reports.{report_value}
use Rattle.status_world.proofs.Replays.{replay_law}
use Rattle.status_cli.proofs.laws.printed_replays_miss_no_change.Goals as goal

pub returns : goal.returns
returns c text distinct old new done =
    let h = done.history in
    let es = events_in h.stretches.items in
    let all : accepted_of es None ≡ es = take_all (length es) es (omega arith) in
    let ids = subst (λ (l : List Event). HaveDistinctIds h.hash (contents_of_events l ++ [] ∷ [])) (sym all) (distinct h done.read) in
    let law = replay_law h.hash h.options.stat h.options.executable_bit h.clock h.timestamp done.start es done.final _ None done.replay ids in
    record {
      history = h;
      read = done.read;
      reports = done.reports;
      printed = done.printed;
      exact = subst (λ (l : List Event). AreExact h.options.executable_bit (map report_value done.reports) (plains_of l empty_plain)) all law.exact;
    }
