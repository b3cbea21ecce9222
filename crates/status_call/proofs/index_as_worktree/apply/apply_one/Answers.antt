use Rattle.status_index.specs.States.{index_of, with_stat, smudged}
use Rattle.status_call.proofs.IndexChanges.{changes_is}
use Rattle.status_call.proofs.index_as_worktree.apply.apply_one.Goals as goal

pub returns-in-NewStat-clause-index : goal.returns-in-NewStat-clause-index
returns-in-NewStat-clause-index c =
    let changed = changes_is (with_stat c.in-NewStat.stat) c.in-NewStat.at (index_of c.args.index.now) (index_of c.set_stat.new.self) c.set_stat.ensures.index in
    rw c.in-NewStat.is changed

pub returns-in-SetSizeToZero-clause-index : goal.returns-in-SetSizeToZero-clause-index
returns-in-SetSizeToZero-clause-index c =
    let changed = changes_is smudged c.in-SetSizeToZero.at (index_of c.args.index.now) (index_of c.smudge.new.self) c.smudge.ensures.index in
    rw c.in-SetSizeToZero.is changed
