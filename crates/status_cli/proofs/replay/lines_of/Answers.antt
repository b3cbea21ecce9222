use Rattle.std.proofs.Common.{◌≡◌, ◌∙◌, ◌+◌, ◌++◌, ◌∷◌, [], sym, ap, take}
use Rattle.std.proofs.lemmas.List.{take_more}
use Rattle.status_cli.specs.Replays.{replay_lines, run_lines}
use Rattle.status_cli.proofs.Runs.{one_more}
use Rattle.status_cli.proofs.replay.lines_of.Goals as goal

pub loop-at-preserved : goal.loop-at-preserved
loop-at-preserved c =
    let reports = c.args.reports.now in let at = c.loop-at.at in let report = c.index-reports-at.result in
    let next : take (at + 1) reports ≡ take at reports ++ report ∷ [] = take_more _ at report c.loop-at-test.true ∙ ap (λ d. take at reports ++ d ∷ []) (sym c.index-reports-at.is) in
    c.in_ok-push_numbered.ensures ∙ ap (λ t. t ++ run_lines c.args.counts (at + 1) report) c.loop-at.invariant
    ∙ sym (ap (replay_lines c.args.counts) next ∙ one_more c.args.counts reports at report c.loop-at-test.true)
