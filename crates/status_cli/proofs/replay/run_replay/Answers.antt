use Rattle.std.proofs.Common.{ℕ, List, Err, Ok}
use Rattle.status_cli.specs.ProfileStatuses.{IsFailed}
use Rattle.status_cli.specs.Replays.{IsReplayText, IsReplayed}
use Rattle.status_cli.proofs.Commands.{known_map}
use Rattle.status_cli.proofs.Runs.{some_replayed}
use Rattle.status_cli.proofs.replay.run_replay.Goals as goal

pub returns-in-Ok-clause-printed : goal.returns-in-Ok-clause-printed
returns-in-Ok-clause-printed g c zero =
    let old = g.O.Write.contents c.args.output.now in
    let new = g.O.Write.contents c.print_replay.new.output in
    let ended : (text : List ℕ) → IsReplayText {A = Unit {0}} text old (Ok c.in-Ok.field-0) new → IsReplayed text old new = λ text h. some_replayed c.in-Ok.field-0 text old new h in
    known_map _ _ ended _ c.in-Ok.ensures

pub returns-in-Err-clause-failed : goal.returns-in-Err-clause-failed
returns-in-Err-clause-failed g c one =
    let old = g.O.Write.contents c.args.output.now in
    let new = g.O.Write.contents c.print_replay.new.output in
    let ended : (text : List ℕ) → IsReplayText {A = Unit {0}} text old (Err c.in-Err.failure) new
    → IsFailed (λ f. IsReplayText {A = Unit {0}} text old (Err f) new) c.args.name.now (g.E.Write.contents c.args.faults.now) (g.E.Write.contents c.report.new.faults) = λ text h. (c.in-Err.failure, h, c.report.ensures.line) in
    known_map _ _ ended _ c.in-Err.ensures
