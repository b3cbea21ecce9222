use Rattle.std.proofs.Common.{rules, ◌≡◌}
use Rattle.std.specs.Ordering.{is_lt}
use Rattle.std.proofs.lemmas.List.Sorted.{answers_always}
use Rattle.status_rewrites.specs.IdentityPairs.{key_cmp}
use Rattle.status_rewrites.specs.SeenItems.{changed_of}
use Rattle.status_rewrites.proofs.Keys.{key_total, sorted_by, kept_by}
use Rattle.status_rewrites.proofs.seen.put_in_key_order.Goals as goal

-- Every change is the change of some `Seen`.
pub returns-clause-rows : goal.returns-clause-rows
returns-clause-rows c key =
    kept_by key_cmp key_total changed_of _ _ _ _ c.sort_by.ensures.stable
    (answers_always _ (λ a r. is_lt r ≡ is_lt (key_cmp (changed_of a.0.now) (changed_of a.1.0.now))) _ (λ f a r f' k. search rules))
    (record { place = 0; id = key.id; kind = key.kind; mode = key.mode; path = record { ref_ptr = (0, 0); now = key.path } })

pub returns-clause-ascends : goal.returns-clause-ascends
returns-clause-ascends c =
    sorted_by key_cmp key_total changed_of _ _ _ c.sort_by.result c.sort_by.ensures.sorted
    (answers_always _ (λ a r. is_lt r ≡ is_lt (key_cmp (changed_of a.0.now) (changed_of a.1.0.now))) _ (λ f a r f' k. search rules))
