use Rattle.std.proofs.Common.{subst, sym}
use Rattle.status_index.specs.States.{index_of}
use Rattle.status_call.specs.IndexChanges.{AreInside}
use Rattle.status_call.proofs.IndexChanges.{status_inside}
use Rattle.status_callers.proofs.statuses.changes.Goals as goal

pub returns : goal.returns
returns g c =
    let inside = status_inside _ _ _ _ _ c.in_ok-index_as_worktree_with_defaults.ensures.all c.new-recorder.ensures in
    subst (λ changes. AreInside changes (index_of c.args.index.now)) (sym c.in_ok-changes.ensures) inside
