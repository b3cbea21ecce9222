use Rattle.status_base.proofs.worktree.guarded.GuardedWorktreeGuard.verify.Goals as goal

pub returns-in-Err-clause-seen : goal.returns-in-Err-clause-seen
returns-in-Err-clause-seen g c = λ opened.
    let seen = c.in-Err.ensures.seen opened in
    record { lstat = seen.lstat; allowed = seen.allowed; checked = seen.checked }
