use Rattle.std.proofs.Common.{[], None, is_some, refl}
use Rattle.status_joined.proofs.Failing.{tracked_fault}
use Rattle.status_joined.proofs.index_as_worktree_with_renames.halves.run_without_walk.Goals as goal

pub returns-in-Err : goal.returns-in-Err
returns-in-Err g c =
    let call = c.args.call.now in
    rw c.from.ensures
    (tracked_fault (g.D.Decide.query c.args.decider) call.options call.index.now (is_some c.args.interrupt) None c.in-Err.error (([], (None, refl)), c.in-Err.ensures))
