use Rattle.std.proofs.Common.{rules, ◌≡◌}
use Rattle.std.specs.List.{count_by}
use Rattle.status_rewrites.specs.declared.tracker.Pair.{Pair}
use Rattle.status_joined.proofs.Rewriting.{count_others}
use Rattle.status_joined.proofs.index_as_worktree_with_renames.rewriting.count.Goals as goal

pub returns-clause-renames : goal.returns-clause-renames
returns-clause-renames c =
    let copies : c.count-copies.result ≡ count_by (λ (p : Pair). p.copy) c.args.pairs.now = search rules in
    count_others c.args.pairs.now c.count-copies.result copies
