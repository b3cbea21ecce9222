use Rattle.std.proofs.Common.{◌∙◌, ap, is_some}
use Rattle.git_status.proofs.Runs.{computed_as, none_not_some, some_computed}
use Rattle.git_status.proofs.status.compute.Goals as goal
use Rattle.git_status.proofs.status.compute.Goals.{in-Some, in-None}

pub returns-clause-computed : goal.returns-clause-computed
returns-clause-computed g c =
    let s = c.args.asked.settings in
    let is = c.new-decider.ensures in
    some_computed c.compute_checked.result _ _
    (λ made. computed_as _ _ c.args.read.now.file.state s _ _ _ _ made.answer _
    (rw (c.new.ensures, c.new-2.ensures, c.of.ensures) at is.query)
    (λ e v h. rw (is.inputs, is.settings, c.new.ensures, c.new-2.ensures, c.of.ensures) at h)
    (λ some. elim c.match-asked.branch [
      | in-Some w ↦ ap is_some (c.of-execution.ensures.interrupt ∙ w.stop-is)
      | in-None w ↦ absurd (none_not_some s.lines w.in-None.is some)
    ])
    c.of-execution.ensures.thread_limit)
    c.compute_checked.ensures.computed
