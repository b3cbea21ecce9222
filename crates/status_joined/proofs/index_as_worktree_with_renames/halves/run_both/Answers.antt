use Rattle.std.proofs.Common.{rules, is_some, map, Some}
use Rattle.status_index.specs.States.{index_of}
use Rattle.status_joined.specs.Keeping.{kept_walked}
use Rattle.status_joined.proofs.Failing.{tracked_fault, walk_fault}
use Rattle.status_joined.proofs.Halving.{failed_at, unwalked_at}
use Rattle.status_joined.proofs.index_as_worktree_with_renames.halves.run_both.Goals as goal

pub returns-in-Err : goal.returns-in-Err
returns-in-Err g c =
    let call = c.args.call.now in
    let walking = g.F.FindUntracked.walking c.args.finder (index_of call.index.now) in
    let interruptible = is_some c.args.interrupt in
    rw c.walk_error.ensures
    (walk_fault (g.D.Decide.query c.args.decider) call.options call.index.now interruptible (Some walking) c.in-Err.error
    (unwalked_at walking interruptible c.in-Err.is (search rules)))

pub returns-in-Err-status : goal.returns-in-Err-status
returns-in-Err-status g c =
    let call = c.args.call.now in
    let query = g.D.Decide.query c.args.decider in
    let walking = g.F.FindUntracked.walking c.args.finder (index_of call.index.now) in
    let interruptible = is_some c.args.interrupt in
    rw c.from.ensures
    (tracked_fault query call.options call.index.now interruptible (Some walking) c.in-Err-status.error (
      (map kept_walked c.in-Ok.nodes.0.items, (Some c.in-Ok.nodes.1, search rules)),
      failed_at query call.options.tracked_file_modifications.thread_limit call.index.now interruptible c.in-Err-status.is (search rules),
    ))
