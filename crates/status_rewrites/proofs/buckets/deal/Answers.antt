use Rattle.std.proofs.Common.{◌≡◌, ◌∙◌, ◌++◌, ◌∷◌, [], true, false, refl, length, take, arith, append-nil, slice_index_or, subst, sym}
use Rattle.status_rewrites.specs.Buckets.{bucket_count, AreBuckets}
use Rattle.status_rewrites.specs.Joins.{side_of}
use Rattle.status_rewrites.proofs.BlankSeen.{blank}
use Rattle.status_rewrites.proofs.Dealing.{none_dealt, put_behind, side_more}
use Rattle.status_rewrites.proofs.buckets.deal.Goals as goal
use Rattle.status_rewrites.proofs.buckets.deal.Goals.{then-may_stand+in_ok-push, else-may_stand}

pub loop-item-init : goal.loop-item-init
unfolding bucket_count
loop-item-init c =
    let all : length c.in_ok-buckets.buckets.items ≡ bucket_count = omega (arith, c.in_ok-buckets.ensures.count) in
    none_dealt c.in_ok-buckets.buckets.items all c.in_ok-buckets.ensures.empty

pub loop-item-preserved : goal.loop-item-preserved
loop-item-preserved c =
    let before = side_of c.args.side c.args.track_empty (take c.loop-item.item-index c.args.seen.now) in
    let x = slice_index_or c.args.seen.now c.loop-item.item-index blank in
    let more = side_more c.args.side c.args.track_empty c.args.seen.now c.loop-item.item-index blank c.loop-item-test.true in
    elim c.if-may_stand.branch [
      | then-may_stand+in_ok-push w ↦
          subst (λ v. AreBuckets v c.if-may_stand.buckets.items) (sym (more true (sym c.may_stand.ensures ∙ w.if-may_stand.true)))
          (subst (λ v. AreBuckets (before ++ x ∷ []) v.items) (sym w.buckets-is)
          (put_behind before x c.loop-item.buckets.items w.bucket_number.result w.index_mut.result.now w.push.new.self _
          w.bucket_number.ensures.value (omega (arith, w.bucket_number.ensures.below, c.loop-item.invariant.count)) refl w.index_mut.ensures.value
          w.in_ok-push.ensures.items c.loop-item.invariant))
      | else-may_stand w ↦
          subst (λ v. AreBuckets v c.if-may_stand.buckets.items) (sym (more false (sym c.may_stand.ensures ∙ w.if-may_stand.false) ∙ append-nil before))
          (subst (λ v. AreBuckets before v.items) (sym w.buckets-is) c.loop-item.invariant)
    ]
