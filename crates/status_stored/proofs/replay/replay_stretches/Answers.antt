use Rattle.std.proofs.Common.{rules, ◌≡◌, None, sym, ap, ◌∙◌, ◌++◌, map, take, subst, All}
use Rattle.std.proofs.lemmas.List.{map-append}
use Rattle.std.proofs.lemmas.List.Elements.{All-append}
use Rattle.status_stored.specs.Reopening.{events_in}
use Rattle.status_stored.proofs.Stretches.{alone, goes_on, stops, stop_place}
use Rattle.status_stored.proofs.replay.replay_stretches.Goals as goal
use Rattle.status_world.specs.History.{IsReplay}
use Rattle.status_world.specs.Reports.{HasSum, report_value}
use Rattle.status_world.specs.Sound.{IsFormed}

pub returns-then-is_err-clause-replay : goal.returns-then-is_err-clause-replay
returns-then-is_err-clause-replay g c =
    let items : c.append.new.self.items ≡ c.loop-stretch.reports.items = search rules in
    let parts = alone _ _ _ _ c.loop-stretch-test.true c.index-stretches-stretch.is _ _ _ _ _ _ _ c.loop-stretch.invariant.replayed c.open_before.ensures.kept c.deref.ensures.value c.replay-next.ensures.replay in
    let earlier = events_in (take c.loop-stretch.stretch c.args.stretches.now) in (
      c.loop-stretch-test.true,
      c.loop-stretch.world,
      subst (λ l. IsReplay c.args.world earlier c.loop-stretch.world l None) (sym (ap (map report_value) items)) parts.0,
      map report_value c.replay-next.result.reports.items,
      c.replay-next.result.stopped,
      parts.1,
    )

pub returns-then-is_err-clause-formed : goal.returns-then-is_err-clause-formed
returns-then-is_err-clause-formed g c =
    λ f. c.replay-next.ensures.formed (subst IsFormed (sym c.open_before.ensures.kept) (c.loop-stretch.invariant.formed f))

pub returns-in-Some-clause-replay : goal.returns-in-Some-clause-replay
returns-in-Some-clause-replay g c =
    let items : c.append.new.self.items ≡ c.loop-stretch.reports.items ++ c.replay-next.result.reports.items = search rules in
    let appended : map report_value c.append.new.self.items ≡ map report_value c.loop-stretch.reports.items ++ map report_value c.replay-next.result.reports.items =
    ap (map report_value) items ∙ map-append report_value _ _ in
    let stopped = stops _ _ _ _ c.loop-stretch-test.true c.index-stretches-stretch.is _ _ _ _ _ _ _ _ _ c.loop-stretch.invariant.replayed c.open_before.ensures.kept c.deref.ensures.value c.replay-next.ensures.replay c.in-Some.is in
    let place = stop_place _ _ _ _ _ _ _ _ _ _ c.loop-stretch-test.true c.index-stretches-stretch.is c.deref.ensures.value c.replay-next.ensures.replay c.in-Some.is in
    (place, rw appended stopped)

pub returns-in-Some-clause-sums : goal.returns-in-Some-clause-sums
returns-in-Some-clause-sums g c =
    let items : c.append.new.self.items ≡ c.loop-stretch.reports.items ++ c.replay-next.result.reports.items = search rules in
    subst (All HasSum) (sym items) (All-append HasSum _ _ c.loop-stretch.invariant.sums c.replay-next.ensures.sums)

pub loop-stretch-preserved : goal.loop-stretch-preserved
loop-stretch-preserved g c =
    let items : c.append.new.self.items ≡ c.loop-stretch.reports.items ++ c.replay-next.result.reports.items = search rules in
    let appended : map report_value c.append.new.self.items ≡ map report_value c.loop-stretch.reports.items ++ map report_value c.replay-next.result.reports.items =
    ap (map report_value) items ∙ map-append report_value _ _ in
    let next = goes_on _ _ _ _ c.loop-stretch-test.true c.index-stretches-stretch.is _ _ _ _ _ _ _ c.loop-stretch.invariant.replayed c.open_before.ensures.kept c.deref.ensures.value c.replay-next.ensures.replay (search rules) in
    record {
      replayed = rw appended next;
      formed = λ f. c.replay-next.ensures.formed (subst IsFormed (sym c.open_before.ensures.kept) (c.loop-stretch.invariant.formed f));
      sums = subst (All HasSum) (sym items) (All-append HasSum _ _ c.loop-stretch.invariant.sums c.replay-next.ensures.sums);
    }
