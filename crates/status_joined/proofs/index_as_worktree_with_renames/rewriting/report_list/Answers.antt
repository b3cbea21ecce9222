use Rattle.std.proofs.Common.{inr, refl, map, Some}
use Rattle.status_rewrites.specs.Entries.{map_rewritten}
use Rattle.status_joined.specs.ListItems.{item_of}
use Rattle.status_joined.proofs.index_as_worktree_with_renames.rewriting.report_list.Goals as goal

pub returns : goal.returns
returns g c =
    let list = c.in-Ok-rewrite_list.list in
    let failed = c.in-Err-feed_rewritten.ensures in
    let fed = failed.1 in
    inr (
      failed.0,
      (
        refl,
        (
          fed.0,
          (
            Some list.outcome,
            (rw c.in-Some.is (map (map_rewritten item_of) list.entries.items, (c.in-Ok-rewrite_list.ensures.answer, fed.1)), fed.2),
          ),
        ),
      ),
    )
