use Rattle.std.proofs.Math.Logic.{∥∥₁_map}
use Rattle.status_call.proofs.Sent.{decider_crosses}
use Rattle.status_call.proofs.StatusSeen.{seen_along}
use Rattle.status_call.proofs.StatusProof.{met_along, unspawned_along}
use Rattle.status_call.proofs.index_as_worktree.function.index_as_worktree.Goals as goal

-- A decider may be sent to another thread, with its table of listings.
pub status_by-requires : goal.status_by-requires
status_by-requires g c κs = (search decider_crosses depth 60, search decider_crosses depth 60)

pub returns-clause-all : goal.returns-clause-all
returns-clause-all g c = met_along _ _ (rw (c.of-inputs.ensures, c.of-settings.ensures) at c.new-decider.ensures.query) _ _ _ _ c.status_by.ensures.all

pub returns-clause-alone : goal.returns-clause-alone
returns-clause-alone g c =
    unspawned_along _ _ (rw (c.of-inputs.ensures, c.of-settings.ensures) at c.new-decider.ensures.query) _ _ c.of-execution.ensures.thread_limit _ c.status_by.ensures.alone

pub returns-clause-seen : goal.returns-clause-seen
returns-clause-seen g c =
    let is = c.new-decider.ensures in
    ∥∥₁_map c.status_by.ensures.seen (seen_along _ _ _ _ (rw (c.of-inputs.ensures, c.of-settings.ensures) at is.query)
    (λ e v h. rw (is.inputs, is.settings, c.of-inputs.ensures, c.of-settings.ensures) at h) _ _ _ _)
