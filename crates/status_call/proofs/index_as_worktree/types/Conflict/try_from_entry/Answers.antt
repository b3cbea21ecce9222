use Rattle.status_call.proofs.Conflicts.{IsConflict-none, IsConflict-some}
use Rattle.status_call.proofs.index_as_worktree.types.Conflict.try_from_entry.Goals as goal

pub returns-in_err-summary : goal.returns-in_err-summary
returns-in_err-summary c =
    let base = c.last_of_stage-base in
    let ours = c.last_of_stage-ours in
    let theirs = c.last_of_stage-theirs in
    rw c.from_residual.ensures
    (IsConflict-none c.args.path_backing.now base.result ours.result theirs.result c.is_some.result c.is_some-2.result c.is_some-3.result c.conflict_run-run.result.now
    (record { last = base.ensures; some = c.is_some.ensures }) (record { last = ours.ensures; some = c.is_some-2.ensures }) (record { last = theirs.ensures; some = c.is_some-3.ensures }) _ c.conflict_run-run.ensures
    c.conflict_named.result c.conflict_named.ensures c.in_err-summary.was)

pub returns : goal.returns
returns c =
    let base = c.last_of_stage-base in
    let ours = c.last_of_stage-ours in
    let theirs = c.last_of_stage-theirs in
    IsConflict-some c.args.path_backing.now base.result ours.result theirs.result c.is_some.result c.is_some-2.result c.is_some-3.result c.conflict_run-run.result.now
    (record { last = base.ensures; some = c.is_some.ensures }) (record { last = ours.ensures; some = c.is_some-2.ensures }) (record { last = theirs.ensures; some = c.is_some-3.ensures }) _ c.conflict_run-run.ensures
    c.in_ok-summary.summary c.conflict_named.result c.conflict_named.ensures c.in_ok-summary.was
