use Rattle.std.proofs.Common.{inl}
use Rattle.status_cli.proofs.Runs.{not_started, replay_printed, ended_begun}
use Rattle.status_cli.proofs.replay.print_history.Goals as goal

pub returns-in_err-world : goal.returns-in_err-world
returns-in_err-world g c = not_started c.args.history.now _ _ _ c.from_residual.ensures.1 c.in_err-world.ensures.err

pub returns-in_err-print_reports : goal.returns-in_err-print_reports
returns-in_err-print_reports g c =
    let replayed = c.replay_reopening-reports in
    replay_printed c.args.history.now _ _ _ replayed.result.reports.items replayed.result.stopped _ _ _ c.in_ok-world.ensures.ok.0 c.in_ok-world.ensures.ok.1 c.deref.ensures.value replayed.ensures.replay
    (ended_begun _ _ _ _ _ _ _ c.from_residual-in_err-print_reports.ensures.1 (rw c.deref-2.ensures.value at c.in_err-print_reports.ensures.0) c.in_err-print_reports.ensures.1)

pub returns-in-Some : goal.returns-in-Some
returns-in-Some g c =
    let replayed = c.replay_reopening-reports in
    replay_printed c.args.history.now _ _ _ replayed.result.reports.items replayed.result.stopped _ _ _ c.in_ok-world.ensures.ok.0 c.in_ok-world.ensures.ok.1 c.deref.ensures.value replayed.ensures.replay
    (inl (rw c.in-Some.is (rw c.deref-in-Some.ensures.value at c.failure_of.ensures), rw c.deref-2.ensures.value at c.in_ok-print_reports.ensures))

pub returns : goal.returns
returns g c =
    let replayed = c.replay_reopening-reports in
    replay_printed c.args.history.now _ _ _ replayed.result.reports.items replayed.result.stopped _ _ _ c.in_ok-world.ensures.ok.0 c.in_ok-world.ensures.ok.1 c.deref.ensures.value replayed.ensures.replay
    (c.in-None.is, rw c.deref-2.ensures.value at c.in_ok-print_reports.ensures)
