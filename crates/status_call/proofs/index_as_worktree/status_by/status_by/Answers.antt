use Rattle.std.proofs.Common.{rules, refl, ap, ◌∙◌, ◌<◌, ◌^◌, length}
use Rattle.std.proofs.lemmas.List.{length-map}
use Rattle.status_index.specs.Entries.{index_entry}
use Rattle.status_index.specs.States.{entries_of, backing_of, index_of}
use Rattle.status_call.proofs.Stretch.{map-part}
use Rattle.status_call.proofs.StatusSeen.{seen_ok, seen_err}
use Rattle.status_call.proofs.StatusProof.{status_alone, status_ok, status_err, work_kept, part_len, rest_len, skip_room}
use Rattle.status_call.specs.Views.{nothing_seen}
use Rattle.status_call.proofs.index_as_worktree.status_by.status_by.Goals as goal

pub returns-in-Ok-clause-all : goal.returns-in-Ok-clause-all
returns-in-Ok-clause-all g c =
    let index = c.args.index.now in
    let part_is = c.of-considered in
    let considered = part_is.result in
    let part = rw c.common_prefix.ensures at part_is.ensures.part in
    let start = rw c.common_prefix.ensures at part_is.ensures.start in
    let whole = map-part (index_entry (backing_of index)) (entries_of index) considered.start considered.end ∙ part in
    let work = rw (part_is.ensures.entries, part_is.ensures.backing, c.of-workers.ensures.interrupt) at c.in-Ok.ensures in
    let kept = work_kept _ _ _ _ _ _ _ _ _ _ _ _ _ refl start whole work in
    let len = length-map (entries_of index) (index_entry (backing_of index)) in
    let order = part_is.ensures.order in
    let inside = part_is.ensures.inside in
    let same = ap length part_is.ensures.entries in
    let fits : length considered.entries.now < 2 ^ 64 = search rules in
    rw c.outcome_of.ensures (status_ok _ _ _ _ _ _ _ c.in-Ok.progress _ _ kept
    (part_len (index_of index) _ (entries_of index) considered.start considered.end part order inside len)
    (rest_len (index_of index) _ (entries_of index) considered.start considered.end part order inside len _ same)
    (skip_room (index_of index) _ (entries_of index) considered.start considered.end part order inside len _ same fits))

pub returns-in-Ok-clause-seen : goal.returns-in-Ok-clause-seen
returns-in-Ok-clause-seen g c =
    let index = c.args.index.now in
    let part_is = c.of-considered in
    let considered = part_is.result in
    let part = rw c.common_prefix.ensures at part_is.ensures.part in
    let start = rw c.common_prefix.ensures at part_is.ensures.start in
    let whole = map-part (index_entry (backing_of index)) (entries_of index) considered.start considered.end ∙ part in
    let work = rw (part_is.ensures.entries, part_is.ensures.backing, c.of-workers.ensures.interrupt) at c.in-Ok.ensures in
    let kept = work_kept _ _ _ _ _ _ _ _ _ _ _ _ _ refl start whole work in
    let len = length-map (entries_of index) (index_entry (backing_of index)) in
    let order = part_is.ensures.order in
    let inside = part_is.ensures.inside in
    let same = ap length part_is.ensures.entries in
    let fits : length considered.entries.now < 2 ^ 64 = search rules in
    rw c.outcome_of.ensures (seen_ok _ _ (λ _. nothing_seen) c.allow_nothing_seen.ensures _ _ _ _ _ c.in-Ok.progress _ _ kept
    (part_len (index_of index) _ (entries_of index) considered.start considered.end part order inside len)
    (rest_len (index_of index) _ (entries_of index) considered.start considered.end part order inside len _ same)
    (skip_room (index_of index) _ (entries_of index) considered.start considered.end part order inside len _ same fits))

pub returns-in-Err-clause-all : goal.returns-in-Err-clause-all
returns-in-Err-clause-all g c =
    let index = c.args.index.now in
    let part_is = c.of-considered in
    let considered = part_is.result in
    let part = rw c.common_prefix.ensures at part_is.ensures.part in
    let start = rw c.common_prefix.ensures at part_is.ensures.start in
    let whole = map-part (index_entry (backing_of index)) (entries_of index) considered.start considered.end ∙ part in
    let work = rw (part_is.ensures.entries, part_is.ensures.backing, c.of-workers.ensures.interrupt) at c.in-Err.ensures in
    status_err _ _ _ _ _ _ _ c.in-Err.error (work_kept _ _ _ _ _ _ _ _ _ _ _ _ _ refl start whole work)

pub returns-in-Err-clause-seen : goal.returns-in-Err-clause-seen
returns-in-Err-clause-seen g c =
    let index = c.args.index.now in
    let part_is = c.of-considered in
    let considered = part_is.result in
    let part = rw c.common_prefix.ensures at part_is.ensures.part in
    let start = rw c.common_prefix.ensures at part_is.ensures.start in
    let whole = map-part (index_entry (backing_of index)) (entries_of index) considered.start considered.end ∙ part in
    let work = rw (part_is.ensures.entries, part_is.ensures.backing, c.of-workers.ensures.interrupt) at c.in-Err.ensures in
    seen_err _ _ (λ _. nothing_seen) c.allow_nothing_seen.ensures _ _ _ _ _ c.in-Err.error (work_kept _ _ _ _ _ _ _ _ _ _ _ _ _ refl start whole work)

pub returns-in-Err-clause-alone : goal.returns-in-Err-clause-alone
returns-in-Err-clause-alone g c =
    let index = c.args.index.now in
    let part_is = c.of-considered in
    let considered = part_is.result in
    let part = rw c.common_prefix.ensures at part_is.ensures.part in
    let start = rw c.common_prefix.ensures at part_is.ensures.start in
    let whole = map-part (index_entry (backing_of index)) (entries_of index) considered.start considered.end ∙ part in
    let work = rw (part_is.ensures.entries, part_is.ensures.backing, c.of-workers.ensures.interrupt) at c.in-Err.ensures in
    status_alone _ _ index _ _ _ _ c.in-Err.error (work_kept _ _ _ _ _ _ _ _ _ _ _ _ _ refl start whole work) c.args.execution.now.thread_limit c.of-workers.ensures.count
