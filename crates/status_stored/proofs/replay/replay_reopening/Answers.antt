use Rattle.std.proofs.Common.{map}
use Rattle.status_world.specs.Reports.{report_value}
use Rattle.status_stored.proofs.ExactReopenings.{reopened_exact}
use Rattle.status_stored.proofs.replay.replay_reopening.Goals as goal

pub returns-clause-exact : goal.returns-clause-exact
returns-clause-exact g c =
    let left = c.replay_stretches.result in
    λ f. reopened_exact c.args.world c.args.stretches.now left.world (map report_value left.reports.items) left.stopped f c.replay_stretches.ensures.replay
