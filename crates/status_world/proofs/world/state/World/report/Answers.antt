use Rattle.std.proofs.Common.{◌≡◌, None, Ok, Err, refl, sym, ap, subst, ◌∙◌, List}
use Rattle.status_call.specs.Records.{first_fault}
use Rattle.status_call.specs.RecorderVisits.{visits_of}
use Rattle.status_call.specs.StatusTheorem.{IsStatusReport}
use Rattle.status_world.specs.declared.world.event.Refusal.TheVariants as refusals
use Rattle.status_world.specs.EventAnswers.{IsRunReport}
use Rattle.status_world.specs.Worlds.{world_of}
use Rattle.status_world.specs.Reports.{Reported, RunReport, report_value}
use Rattle.status_world.specs.StampedWorld.{StampedWorld, query_of, report_of}
use Rattle.status_world.proofs.RunAnswers.{answered_report, answered_error, never_spawns}
use Rattle.status_world.proofs.world.state.World.report.Goals as goal

pub returns-in_ok-owned_records-in-Ok-clause-report : goal.returns-in_ok-owned_records-in-Ok-clause-report
returns-in_ok-owned_records-in-Ok-clause-report g c =
    let w = world_of c.self.inside.parts in
    let by = c.args.run.now.comparer in
    let o = c.in-Ok.outcome in
    let recorder = c.index_as_worktree_with_defaults-status.new.collector in
    let met = subst (λ old. IsStatusReport (query_of w by) c.self.inside.parts.index old (Ok o) (visits_of recorder)) c.new-recorder.ensures c.in-Ok.ensures.all in
    let answered = answered_report w by c.self.inside.parts.index refl recorder.records.items o c.in-Ok.ensures.uninterrupted met in
    let owned = ap (λ (rs : List Reported). record { records = rs; outcome = o }) c.in_ok-owned_records-in-Ok.ensures in
    let report : RunReport = report_value (record { records = c.in_ok-owned_records-in-Ok.field-0; outcome = o }) in
    subst (λ (v : StampedWorld). (first_fault (query_of v by) v.entries ≡ None) × (report ≡ report_of v by)) c.self.view_is (answered.0, owned ∙ answered.1)

pub returns-in-Err-clause-report : goal.returns-in-Err-clause-report
returns-in-Err-clause-report g c =
    let w = world_of c.self.inside.parts in
    let by = c.args.run.now.comparer in
    let e = c.in-Err.error in
    let recorder = c.index_as_worktree_with_defaults-status.new.collector in
    let met = subst (λ old. IsStatusReport (query_of w by) c.self.inside.parts.index old (Err e) (visits_of recorder)) c.new-recorder.ensures c.in-Err.ensures.all in
    subst (λ (v : StampedWorld). IsRunReport c.args.run.now v (Err (refusals.Run e))) c.self.view_is
    (answered_error w c.args.run.now c.self.inside.parts.index refl e (visits_of recorder) (λ one. c.in-Err.ensures.alone refl one (never_spawns w by)) met)
