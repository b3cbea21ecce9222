use Rattle.std.proofs.Common.{All, map, arith, ap, subst, sym}
use Rattle.std.proofs.lemmas.List.Elements.{All-nil}
use Rattle.status_world.specs.Reports.{HasSum, report_value}
use Rattle.status_world.proofs.Causes.{replay_causes}
use Rattle.status_world.proofs.Histories.{replay_exact}
use Rattle.status_world.proofs.Replays.{begun, one_more, stopped_at, ended, replay_formed}
use Rattle.status_world.proofs.world.apply.replay.Goals as goal

pub loop-place-init : goal.loop-place-init
loop-place-init g c = record {
  replayed = begun _ _ (ap (map report_value) c.new-reports.ensures.items);
  sums = subst (All HasSum) (sym c.new-reports.ensures.items) (All-nil HasSum);
}

pub returns-in-Err-clause-replay : goal.returns-in-Err-clause-replay
returns-in-Err-clause-replay g c =
    stopped_at c.args.events.now c.loop-place.place _ _ _ _ _ _ _
    c.loop-place-test.true c.index-events-place.is c.loop-place.invariant.replayed c.in-Err.ensures.step

pub returns-in-Err-clause-formed : goal.returns-in-Err-clause-formed
returns-in-Err-clause-formed g c = λ f. replay_formed _ _ _ _ _ f (returns-in-Err-clause-replay g c)

pub returns-in-Err-clause-causes : goal.returns-in-Err-clause-causes
returns-in-Err-clause-causes g c = λ f. replay_causes _ _ _ _ _ f (returns-in-Err-clause-replay g c)

pub returns-in-Err-clause-exact : goal.returns-in-Err-clause-exact
returns-in-Err-clause-exact g c = λ f sound distinct. replay_exact _ _ _ _ _ f sound distinct (returns-in-Err-clause-replay g c)

pub loop-place-preserved : goal.loop-place-preserved
loop-place-preserved g c = record {
  replayed = one_more c.args.events.now c.loop-place.place _ _ _ _ _ _
      c.loop-place-test.true c.index-events-place.is c.loop-place.invariant.replayed c.in_default.ensures.step;
  sums = c.in_default.ensures.sums c.loop-place.invariant.sums;
}

pub returns-clause-replay : goal.returns-clause-replay
returns-clause-replay g c =
    ended c.args.events.now c.loop-place.place _ _ _
    (omega (arith, c.loop-place-test.false, c.loop-place.auto.place-end)) c.loop-place.invariant.replayed

pub returns-clause-formed : goal.returns-clause-formed
returns-clause-formed g c = λ f. replay_formed _ _ _ _ _ f (returns-clause-replay g c)

pub returns-clause-causes : goal.returns-clause-causes
returns-clause-causes g c = λ f. replay_causes _ _ _ _ _ f (returns-clause-replay g c)

pub returns-clause-exact : goal.returns-clause-exact
returns-clause-exact g c = λ f sound distinct. replay_exact _ _ _ _ _ f sound distinct (returns-clause-replay g c)
