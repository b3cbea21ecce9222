use Rattle.std.proofs.Common.{Ok, inr}
use Rattle.status_profile.specs.Histories.{IsHistoryRead}
use Rattle.status_cli.specs.Replays.{IsReplayText}
use Rattle.status_cli.proofs.Commands.{of_known}
use Rattle.status_cli.proofs.replay.print_replay.Goals as goal

pub returns : goal.returns
returns g c =
    let text = c.in_ok-text.text.items in
    let h = c.in_ok-history.history in
    let read : IsHistoryRead text (Ok h) = rw c.as_slice.ensures.value at c.in_ok-history.ensures in
    of_known (λ all. IsReplayText all (g.O.Write.contents c.args.output.now) c.print_history.result (g.O.Write.contents c.print_history.new.output)) _ text c.in_ok-text.ensures.ok
    (inr (h, read, c.print_history.ensures))
