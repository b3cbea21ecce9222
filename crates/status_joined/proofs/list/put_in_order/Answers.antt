use Rattle.std.proofs.Common.{rules, ◌≡◌}
use Rattle.std.proofs.lemmas.Cmp.{nat_cmp_total, nat_list_cmp_total}
use Rattle.std.proofs.lemmas.List.Sorted.{answers_always, ranks_by}
use Rattle.std.proofs.lemmas.Result.{on_ok_weaker}
use Rattle.std.specs.Cmp.Lexicographic.{slice_cmp}
use Rattle.std.specs.Ordering.{is_lt, nat_cmp}
use Rattle.status_joined.specs.Items.{path_of, side_of}
use Rattle.status_joined.specs.ListItems.{item_of}
use Rattle.status_joined.proofs.Orders.{sorted_by_both}
use Rattle.status_joined.proofs.list.put_in_order.Goals as goal

pub returns-clause-stable : goal.returns-clause-stable
returns-clause-stable g c =
    c.sort_by.ensures.stable _ (ranks_by nat_list_cmp_total (λ i. path_of (item_of i)))
    (answers_always _ (λ a r. is_lt r ≡ is_lt (slice_cmp nat_cmp (path_of (item_of a.0.now)) (path_of (item_of a.1.0.now)))) _ (λ f a r f' k. search rules))

pub returns-clause-order : goal.returns-clause-order
returns-clause-order g c =
    on_ok_weaker c.sort_by.result
    (λ sorted. sorted_by_both nat_list_cmp_total nat_cmp_total (λ i. path_of (item_of i)) (λ i. side_of (item_of i)) _ _ c.requires (returns-clause-stable g c)
    (sorted _ (ranks_by nat_list_cmp_total (λ i. path_of (item_of i)))
    (answers_always _ (λ a r. is_lt r ≡ is_lt (slice_cmp nat_cmp (path_of (item_of a.0.now)) (path_of (item_of a.1.0.now)))) _ (λ f a r f' k. search rules))))
    c.sort_by.ensures.sorted
