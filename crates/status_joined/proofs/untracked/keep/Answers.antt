use Rattle.std.proofs.Common.{rules, sym, ◌∙◌}
use Rattle.std.proofs.lemmas.List.{map-append}
use Rattle.status_joined.proofs.untracked.keep.Goals as goal

-- The node is kept.
pub returns-in_ok-push : goal.returns-in_ok-push
returns-in_ok-push c =
    let e = sym (c.is_kept.ensures c.args.collapsed_directory_status) ∙ c.if-is_kept.true in
    rw (e, c.in_ok-push.ensures.items) (map-append _ _ _)

-- The node is dropped.
pub returns-else-is_kept : goal.returns-else-is_kept
returns-else-is_kept c =
    let e = sym (c.is_kept.ensures c.args.collapsed_directory_status) ∙ c.if-is_kept.false in
    rw e (search rules)
