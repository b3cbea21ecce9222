use Rattle.std.proofs.Common.{◌≡◌, ◌<◌, ◌∙◌, ◌++◌, [], subst, sym, ap, map, arith}
use Rattle.std.proofs.lemmas.List.{map-append}
use Rattle.status_rewrites.specs.Buckets.{bucket_count, bucket_number, changes_named, in_bucket}
use Rattle.status_rewrites.specs.IdentityPairs.{key_cmp}
use Rattle.status_rewrites.specs.Joins.{alike_in, side_of, rename_of}
use Rattle.status_rewrites.specs.SeenItems.{changed_of}
use Rattle.status_rewrites.specs.declared.tracker.ChangeKind.TheVariants.{Deletion, Addition}
use Rattle.status_rewrites.proofs.Bucketing.{matched_none, matched_more, matched_all}
use Rattle.status_rewrites.proofs.Dealing.{bucket_below, bucket_few}
use Rattle.status_rewrites.proofs.Keys.{key_total}
use Rattle.status_rewrites.proofs.buckets.join_buckets.Goals as goal

pub index-requires : goal.index-requires
unfolding bucket_count
index-requires c = omega (arith, c.in_ok-gone.ensures.count)

pub index-requires-in-loop-number : goal.index-requires-in-loop-number
unfolding bucket_count
index-requires-in-loop-number c = omega (arith, c.in_ok-came.ensures.count)

pub loop-number-init : goal.loop-number-init
loop-number-init c = record {
  matched = [];
  are = c.new-pairs.ensures.items;
  done = matched_none key_cmp key_total changed_of bucket_number bucket_below (side_of Deletion c.args.track_empty c.args.seen.now) (side_of Addition c.args.track_empty c.args.seen.now);
}

pub loop-number-preserved : goal.loop-number-preserved
unfolding bucket_count
loop-number-preserved c =
    let went = side_of Deletion c.args.track_empty c.args.seen.now in
    let new = side_of Addition c.args.track_empty c.args.seen.now in
    let at = c.loop-number.number in
    let was = c.loop-number.invariant in
    let put = c.in_ok-append_pairs.ensures in
    let first : map (λ s. s.now) c.deref.result.now ≡ in_bucket at went =
    ap (map (λ s. s.now)) c.deref.ensures.value ∙ ap changes_named c.index.ensures ∙ c.in_ok-gone.ensures.each at _ (omega (arith, c.in_ok-gone.ensures.count)) in
    let second : map (λ s. s.now) c.deref-in-loop-number.result.now ≡ in_bucket at new =
    ap (map (λ s. s.now)) c.deref-in-loop-number.ensures.value ∙ ap changes_named c.index-in-loop-number.ensures ∙ c.in_ok-came.ensures.each at _ (omega (arith, c.in_ok-came.ensures.count)) in
    record {
      matched = was.matched ++ put.join.matched;
      are = put.is ∙ ap (λ v. v ++ put.more) was.are ∙ ap (λ v. map rename_of was.matched ++ v) put.join.are ∙ sym (map-append rename_of was.matched put.join.matched);
      done = matched_more key_cmp key_total changed_of bucket_number bucket_below went new at was.matched put.join.matched put.first put.second was.done
          (λ key. put.first_rows key ∙ ap (alike_in key) first) (λ key. put.second_rows key ∙ ap (alike_in key) second) put.join.by_key put.join.each;
    }

pub returns : goal.returns
unfolding bucket_count
returns c =
    let was = c.loop-number.invariant in
    let end : bucket_count ≡ c.loop-number.number = omega arith in
    record {
      matched = was.matched;
      are = was.are;
      by_key = was.done.by_key;
      each = matched_all key_cmp key_total changed_of bucket_number bucket_below
          (side_of Deletion c.args.track_empty c.args.seen.now) (side_of Addition c.args.track_empty c.args.seen.now) c.loop-number.number was.matched
          (λ key. subst (λ n. bucket_number key < n) end (bucket_few key)) was.done;
    }
