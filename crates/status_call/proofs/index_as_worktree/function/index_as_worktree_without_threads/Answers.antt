use Rattle.std.proofs.Math.Logic.{∥∥₁_map}
use Rattle.status_call.proofs.StatusSeen.{seen_along}
use Rattle.status_call.proofs.StatusProof.{faults_along, met_along, threadless_along}
use Rattle.status_call.proofs.index_as_worktree.function.index_as_worktree_without_threads.Goals as goal

pub returns-clause-all : goal.returns-clause-all
returns-clause-all g c = met_along _ _ (rw (c.of-inputs.ensures, c.of.ensures) at c.new-decider.ensures.query) _ _ _ _ c.status_serially.ensures.all

pub returns-clause-threadless : goal.returns-clause-threadless
returns-clause-threadless g c =
    let query = rw (c.of-inputs.ensures, c.of.ensures) at c.new-decider.ensures.query in
    (threadless_along _ _ query _ c.status_serially.ensures.threadless, faults_along _ _ query c.args.index.now _ _ _ c.status_serially.ensures.fault)

pub returns-clause-seen : goal.returns-clause-seen
returns-clause-seen g c =
    let is = c.new-decider.ensures in
    ∥∥₁_map c.status_serially.ensures.seen (seen_along _ _ _ _ (rw (c.of-inputs.ensures, c.of.ensures) at is.query)
    (λ e v h. rw (is.inputs, is.settings, c.of-inputs.ensures, c.of.ensures) at h) _ _ _ _)
