use Rattle.std.proofs.Common.{refl, subst, sym}
use Rattle.std.proofs.lemmas.Result.{IfOk-weaker}
use Rattle.status_rewrites.specs.Buckets.{ArePairsOf}
use Rattle.status_rewrites.specs.Joins.{HasRows, IsJoin, side_of}
use Rattle.status_rewrites.specs.declared.tracker.ChangeKind.TheVariants.{Deletion, Addition}
use Rattle.status_rewrites.proofs.tracker.side_pairs.Goals as goal

pub returns-then-seen-ge-LONG : goal.returns-then-seen-ge-LONG
returns-then-seen-ge-LONG c =
    let gone = side_of Deletion c.args.track_empty c.args.seen.now in
    let came = side_of Addition c.args.track_empty c.args.seen.now in
    IfOk-weaker c.join_buckets.result (λ pairs. IsJoin gone came pairs.items) (λ pairs. ArePairsOf c.args.track_empty c.args.seen.now pairs.items)
    (λ pairs j. record { gone = gone; came = came; gone_rows = λ key. refl; came_rows = λ key. refl; join = j })
    c.join_buckets.ensures

pub returns : goal.returns
returns c =
    let gone = c.deref.result.now in
    let came = c.deref-2.result.now in
    IfOk-weaker c.join.result (λ pairs. IsJoin gone came pairs.items) (λ pairs. ArePairsOf c.args.track_empty c.args.seen.now pairs.items)
    (λ pairs j. record {
      gone = gone;
      came = came;
      gone_rows = subst (HasRows (side_of Deletion c.args.track_empty c.args.seen.now)) (sym c.deref.ensures.value) c.in_ok-gone.ensures.rows;
      came_rows = subst (HasRows (side_of Addition c.args.track_empty c.args.seen.now)) (sym c.deref-2.ensures.value) c.in_ok-came.ensures.rows;
      join = j;
    })
    c.join.ensures
