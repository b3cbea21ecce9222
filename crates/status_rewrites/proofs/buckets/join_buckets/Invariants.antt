use Rattle.std.proofs.Common.{◌≡◌, List, map}
use Rattle.status_rewrites.specs.Buckets.{bucket_number}
use Rattle.status_rewrites.specs.IdentityPairs.{key_cmp}
use Rattle.status_rewrites.specs.Joins.{side_of, rename_of}
use Rattle.status_rewrites.specs.SeenItems.{changed_of}
use Rattle.status_rewrites.specs.declared.tracker.ChangeKind.TheVariants.{Deletion, Addition}
use Rattle.status_rewrites.specs.declared.seen.Seen.{Seen}
use Rattle.status_rewrites.proofs.Bucketing.{Matched}
use Rattle.status_rewrites.proofs.Dealing.{bucket_below}
use Rattle.status_rewrites.proofs.Keys.{key_total}
use Rattle.status_rewrites.proofs.buckets.join_buckets.Given as goal

abbrev pub invariant-loop-number : goal.invariant-loop-number
invariant-loop-number l = record {
  matched : List (Seen × Seen);
  are : l.pairs.items ≡ map rename_of matched;
  done : Matched key_cmp key_total changed_of bucket_number bucket_below (side_of Deletion l.fn.track_empty l.fn.seen) (side_of Addition l.fn.track_empty l.fn.seen) l.number matched;
}
