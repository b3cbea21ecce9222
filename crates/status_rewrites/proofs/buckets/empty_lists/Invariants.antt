use Rattle.std.proofs.Common.{◌≡◌, [], length, All}
use Rattle.status_rewrites.proofs.buckets.empty_lists.Given as goal

abbrev pub invariant-loop : goal.invariant-loop
invariant-loop g l = record {
  none : All (λ v. v.items ≡ []) l.lists.items;
  long : length l.lists.items ≡ l.counter;
}
