use Rattle.std.proofs.Common.{◌≡◌, ◌++◌, []}
use Rattle.status_index.specs.declared.stat.Moment.{Moment}
use Rattle.status_cli.specs.declared.failure.Failure.TheVariants.{Memory}
use Rattle.status_cli.specs.ProfileStatuses.{IsFailed}
use Rattle.status_cli.specs.Refreshes.{IsRefreshFailed, IsRefreshed}
use Rattle.status_cli.proofs.Commands.{known_map}
use Rattle.status_cli.proofs.Refreshed.{text_appended, text_lost}
use Rattle.status_cli.proofs.refresh.run_refresh.Goals as goal

pub returns-in-Ok-append-clause-refreshed : goal.returns-in-Ok-append-clause-refreshed
returns-in-Ok-append-clause-refreshed g c zero =
    let timestamp : Moment = record { secs = c.args.secs; nsecs = c.args.nsecs } in
    let old = g.O.Write.contents c.args.output.now in let new = g.O.Write.contents c.refresh.new.output in
    let added = c.in-Ok.text.items in
    let before = c.args.refreshed.now.items in let after = c.append.new.to.items in
    let grew : after ≡ before ++ added = rw c.in-Ok-append.is at c.append.ensures.ok in
    known_map (λ text. IsRefreshed text timestamp old new [] added) (λ text. IsRefreshed text timestamp old new before after) (λ text h. text_appended text timestamp old new before added h after grew) _ c.in-Ok.ensures.ok

pub returns-in-Err-append-clause-failed : goal.returns-in-Err-append-clause-failed
returns-in-Err-append-clause-failed g c one =
    let timestamp : Moment = record { secs = c.args.secs; nsecs = c.args.nsecs } in
    let old = g.O.Write.contents c.args.output.now in let new = g.O.Write.contents c.refresh.new.output in
    let added = c.in-Ok.text.items in
    known_map (λ text. IsRefreshed text timestamp old new [] added)
    (λ text. IsFailed (λ f. IsRefreshFailed text old f new) c.args.name.now (g.E.Write.contents c.args.faults.now) (g.E.Write.contents c.report.new.faults))
    (λ text h. (Memory, text_lost text timestamp old new [] added h, c.report.ensures.line)) _ c.in-Ok.ensures.ok

pub returns-in-Err-clause-failed : goal.returns-in-Err-clause-failed
returns-in-Err-clause-failed g c one =
    let old = g.O.Write.contents c.args.output.now in let new = g.O.Write.contents c.refresh.new.output in
    known_map (λ text. IsRefreshFailed text old c.in-Err.failure new)
    (λ text. IsFailed (λ f. IsRefreshFailed text old f new) c.args.name.now (g.E.Write.contents c.args.faults.now) (g.E.Write.contents c.report-in-Err.new.faults))
    (λ text h. (c.in-Err.failure, h, c.report-in-Err.ensures.line)) _ c.in-Err.ensures.err
