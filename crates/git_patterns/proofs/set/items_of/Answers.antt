use Rattle.std.proofs.Common.{◌≡◌, length, subst, sym, ap, true, false}
use Rattle.std.specs.Option.{option_map}
use Rattle.git_patterns.specs.Sets.{item_at, item_step}
use Rattle.git_patterns.proofs.Items.{after, all, read_more, shorter}
use Rattle.git_patterns.proofs.Leaving.{item_leaves, item_step_leaves, lens}
use Rattle.git_patterns.proofs.set.items_of.Goals as goal

pub items-smaller : goal.items-smaller
items-smaller c = shorter length (item_at c.items.is_first) (item_leaves c.items.is_first) c.items.rest.now (c.in-Some.item, c.in-Some.after.now) (sym c.in-Some.ensures)

pub items-preserved : goal.items-preserved
items-preserved c =
    let whole = all lens item_step (true, c.args.bytes.now) in let behind = c.in-Some.after.now in
    subst (λ items. after items (all lens item_step (false, behind)) ≡ whole) (sym c.in_ok-push.ensures.items)
    (read_more lens item_step item_step_leaves whole c.items.items.items (c.items.is_first, c.items.rest.now) (c.in-Some.item, (false, behind)) c.items.invariant
    (ap (option_map (λ x. (x.0, (false, x.1)))) (sym c.in-Some.ensures)))
