use Rattle.std.proofs.Common.{ap, ◌∙◌}
use Rattle.status_call.specs.Query.{Query}
use Rattle.status_call.specs.declared.index_as_worktree.inputs.Settings.{Settings}
use Rattle.status_call.proofs.ViewLemmas.{allowed_within}
use Rattle.status_call.proofs.index_as_worktree.decider.DeciderDecide.another.Goals as goal

pub returns-clause-same : goal.returns-clause-same
returns-clause-same g c =
    c.new.ensures.query ∙ ap (λ (f : Settings → Query g.row.C-Output.Denot g.row.S-Output.Denot). f c.args.self.now.settings) c.in_ok-inputs.ensures.same

pub returns-clause-within : goal.returns-clause-within
returns-clause-within g c = λ e v h.
    allowed_within e v c.args.self.now.settings.fscache c.in_ok-inputs.ensures.within (rw (c.new.ensures.inputs, c.new.ensures.settings) at h)

pub new-requires : goal.new-requires
new-requires g c = record { guard = rw c.in_ok-inputs.ensures.worktree c.args.self.now.guard }
