use Rattle.std.proofs.Common.{rules, ◌≡◌}
use Rattle.std.proofs.lemmas.List.Sorted.{answers_always}
use Rattle.std.specs.Ordering.{is_lt}
use Rattle.status_rewrites.specs.IdentityPairs.{place_cmp}
use Rattle.status_rewrites.specs.SeenItems.{numbered}
use Rattle.status_rewrites.proofs.Keys.{path_total, sorted_by}
use Rattle.status_rewrites.proofs.seen.put_in_path_order.Goals as goal

pub returns-clause-ascends : goal.returns-clause-ascends
returns-clause-ascends c =
    sorted_by place_cmp path_total numbered _ _ _ c.sort_by.result c.sort_by.ensures.sorted
    (answers_always _ (λ a r. is_lt r ≡ is_lt (place_cmp (numbered a.0.now) (numbered a.1.0.now))) _ (λ f a r f' k. search rules))
