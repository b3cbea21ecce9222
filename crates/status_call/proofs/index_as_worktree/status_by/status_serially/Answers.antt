use Rattle.std.proofs.Common.{rules, Some, refl, ap, ◌∙◌, ◌<◌, ◌^◌, length}
use Rattle.std.proofs.lemmas.List.{length-map}
use Rattle.std.proofs.lemmas.Result.{err_from_is_err_and}
use Rattle.status_index.specs.Entries.{index_entry}
use Rattle.status_index.specs.States.{entries_of, backing_of, index_of}
use Rattle.status_call.proofs.Stretch.{map-part}
use Rattle.status_call.proofs.StatusSeen.{seen_ok, seen_err}
use Rattle.status_call.proofs.StatusProof.{status_alone, status_fault, status_ok, status_err, work_kept, part_len, rest_len, skip_room}
use Rattle.status_call.specs.Views.{nothing_seen}
use Rattle.status_call.proofs.index_as_worktree.status_by.status_serially.Goals as goal

pub returns-clause-all : goal.returns-clause-all
returns-clause-all g c =
    let index = c.args.index.now in
    let part_is = c.of-considered in
    let considered = part_is.result in
    let part = rw c.common_prefix.ensures at part_is.ensures.part in
    let start = rw c.common_prefix.ensures at part_is.ensures.start in
    let whole = map-part (index_entry (backing_of index)) (entries_of index) considered.start considered.end ∙ part in
    let work = rw (part_is.ensures.entries, part_is.ensures.backing) at c.in_ok-progress.ensures in
    let kept = work_kept _ _ _ _ _ _ _ _ _ _ _ _ _ refl start whole work in
    let len = length-map (entries_of index) (index_entry (backing_of index)) in
    let order = part_is.ensures.order in
    let inside = part_is.ensures.inside in
    let same = ap length part_is.ensures.entries in
    let fits : length considered.entries.now < 2 ^ 64 = search rules in
    rw c.outcome_of.ensures (status_ok _ _ _ _ _ _ _ c.in_ok-progress.progress _ _ kept
    (part_len (index_of index) _ (entries_of index) considered.start considered.end part order inside len)
    (rest_len (index_of index) _ (entries_of index) considered.start considered.end part order inside len _ same)
    (skip_room (index_of index) _ (entries_of index) considered.start considered.end part order inside len _ same fits))

pub returns-clause-seen : goal.returns-clause-seen
returns-clause-seen g c =
    let index = c.args.index.now in
    let part_is = c.of-considered in
    let considered = part_is.result in
    let part = rw c.common_prefix.ensures at part_is.ensures.part in
    let start = rw c.common_prefix.ensures at part_is.ensures.start in
    let whole = map-part (index_entry (backing_of index)) (entries_of index) considered.start considered.end ∙ part in
    let work = rw (part_is.ensures.entries, part_is.ensures.backing) at c.in_ok-progress.ensures in
    let kept = work_kept _ _ _ _ _ _ _ _ _ _ _ _ _ refl start whole work in
    let len = length-map (entries_of index) (index_entry (backing_of index)) in
    let order = part_is.ensures.order in
    let inside = part_is.ensures.inside in
    let same = ap length part_is.ensures.entries in
    let fits : length considered.entries.now < 2 ^ 64 = search rules in
    rw c.outcome_of.ensures (seen_ok _ _ (λ _. nothing_seen) (g.met.D.Decide.free c.args.decider.now) _ _ _ _ _ c.in_ok-progress.progress _ _ kept
    (part_len (index_of index) _ (entries_of index) considered.start considered.end part order inside len)
    (rest_len (index_of index) _ (entries_of index) considered.start considered.end part order inside len _ same)
    (skip_room (index_of index) _ (entries_of index) considered.start considered.end part order inside len _ same fits))

pub returns-in_err-progress-clause-all : goal.returns-in_err-progress-clause-all
returns-in_err-progress-clause-all g c =
    let index = c.args.index.now in
    let part_is = c.of-considered in
    let considered = part_is.result in
    let part = rw c.common_prefix.ensures at part_is.ensures.part in
    let start = rw c.common_prefix.ensures at part_is.ensures.start in
    let whole = map-part (index_entry (backing_of index)) (entries_of index) considered.start considered.end ∙ part in
    let work = rw (part_is.ensures.entries, part_is.ensures.backing) at c.in_err-progress.ensures in
    let failed = err_from_is_err_and c.from_residual.result c.from_residual.ensures.1 in
    rw (failed.1, failed.2) (status_err _ _ _ _ _ _ _ c.in_err-progress.field-0.0 (work_kept _ _ _ _ _ _ _ _ _ _ _ _ _ refl start whole work))

pub returns-in_err-progress-clause-seen : goal.returns-in_err-progress-clause-seen
returns-in_err-progress-clause-seen g c =
    let index = c.args.index.now in
    let part_is = c.of-considered in
    let considered = part_is.result in
    let part = rw c.common_prefix.ensures at part_is.ensures.part in
    let start = rw c.common_prefix.ensures at part_is.ensures.start in
    let whole = map-part (index_entry (backing_of index)) (entries_of index) considered.start considered.end ∙ part in
    let work = rw (part_is.ensures.entries, part_is.ensures.backing) at c.in_err-progress.ensures in
    let failed = err_from_is_err_and c.from_residual.result c.from_residual.ensures.1 in
    rw (failed.1, failed.2) (seen_err _ _ (λ _. nothing_seen) (g.met.D.Decide.free c.args.decider.now) _ _ _ _ _ c.in_err-progress.field-0.0 (work_kept _ _ _ _ _ _ _ _ _ _ _ _ _ refl start whole work))

pub returns-in_err-progress-clause-threadless : goal.returns-in_err-progress-clause-threadless
returns-in_err-progress-clause-threadless g c =
    let index = c.args.index.now in
    let part_is = c.of-considered in
    let considered = part_is.result in
    let part = rw c.common_prefix.ensures at part_is.ensures.part in
    let start = rw c.common_prefix.ensures at part_is.ensures.start in
    let whole = map-part (index_entry (backing_of index)) (entries_of index) considered.start considered.end ∙ part in
    let work = rw (part_is.ensures.entries, part_is.ensures.backing) at c.in_err-progress.ensures in
    let failed = err_from_is_err_and c.from_residual.result c.from_residual.ensures.1 in
    rw (failed.1, failed.2) (λ t never. status_alone _ _ index _ _ _ 1 c.in_err-progress.field-0.0 (work_kept _ _ _ _ _ _ _ _ _ _ _ _ _ refl start whole work) (Some 1) refl t refl never)

pub returns-in_err-progress-clause-fault : goal.returns-in_err-progress-clause-fault
returns-in_err-progress-clause-fault g c =
    let index = c.args.index.now in
    let part_is = c.of-considered in
    let considered = part_is.result in
    let part = rw c.common_prefix.ensures at part_is.ensures.part in
    let start = rw c.common_prefix.ensures at part_is.ensures.start in
    let whole = map-part (index_entry (backing_of index)) (entries_of index) considered.start considered.end ∙ part in
    let work = rw (part_is.ensures.entries, part_is.ensures.backing) at c.in_err-progress.ensures in
    let failed = err_from_is_err_and c.from_residual.result c.from_residual.ensures.1 in
    rw (failed.1, failed.2) (status_fault _ _ index _ _ _ 1 c.in_err-progress.field-0.0 (work_kept _ _ _ _ _ _ _ _ _ _ _ _ _ refl start whole work) refl)
