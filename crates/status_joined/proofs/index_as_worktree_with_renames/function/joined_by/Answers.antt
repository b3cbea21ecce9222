use Rattle.std.proofs.Common.{refl}
use Rattle.status_index.specs.States.{index_of}
use Rattle.status_joined.proofs.Joining.{joined_at, quietly, reported_all, unlisted, unreported}
use Rattle.status_joined.proofs.index_as_worktree_with_renames.function.joined_by.Goals as goal

pub returns-in_default : goal.returns-in_default
returns-in_default g c = quietly _ _ _ _ _ _ _ _ _ _ tt

pub returns-in_default-identifier_of : goal.returns-in_default-identifier_of
returns-in_default-identifier_of g c = quietly _ _ _ _ _ _ _ _ _ _ tt

pub returns-in-Err : goal.returns-in-Err
returns-in-Err g c =
    let decider = rw (c.of-settings.ensures, c.tracked_options.ensures, c.new-guard.ensures) at c.new-decider.ensures.query in
    let walk = c.in-Ok.ensures (index_of c.args.call.now.index.now) in
    let ids = c.in-Ok-identifier_of.ensures in
    joined_at _ _ _ _ _ _ _ _ _ decider _ walk _ ids _ _ _
    (unlisted _ _ _ _ _ _ _ _ _ c.in-Err.error c.in-Err.ensures)

pub returns-in-Ok-report_list : goal.returns-in-Ok-report_list
returns-in-Ok-report_list g c =
    let decider = rw (c.of-settings.ensures, c.tracked_options.ensures, c.new-guard.ensures) at c.new-decider.ensures.query in
    let walk = c.in-Ok.ensures (index_of c.args.call.now.index.now) in
    let ids = c.in-Ok-identifier_of.ensures in
    joined_at _ _ _ _ _ _ _ _ _ decider _ walk _ ids _ _ _
    (reported_all _ _ _ _ _ _ _ _ _ _ _ c.in-Ok-list_halves.ensures _ _ _ c.in-Ok-report_list.ensures)

pub returns : goal.returns
returns g c =
    let decider = rw (c.of-settings.ensures, c.tracked_options.ensures, c.new-guard.ensures) at c.new-decider.ensures.query in
    let walk = c.in-Ok.ensures (index_of c.args.call.now.index.now) in
    let ids = c.in-Ok-identifier_of.ensures in
    joined_at _ _ _ _ _ _ _ _ _ decider _ walk _ ids _ _ _
    (unreported _ _ _ _ _ _ _ _ _ _ _ c.in-Ok-list_halves.ensures _ _ _ c.in-Err-report_list.ensures)

pub new-decider-requires : goal.new-decider-requires
new-decider-requires g c = record { guard = rw (c.of-settings.ensures, c.tracked_options.ensures, c.new-guard.ensures) refl }
