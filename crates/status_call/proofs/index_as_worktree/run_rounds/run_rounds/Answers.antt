use Rattle.std.proofs.Common.{rules, ◌≡◌, ap, ◌≤◌, ◌<◌, ◌-◌, ◌^◌, length, arith, refl, ◌∙◌, is_some}
use Rattle.status_call.specs.Rounds.{bound}
use Rattle.status_call.proofs.ConsideredParts.{part_is_index, part_long}
use Rattle.status_call.proofs.WorkInOrder.{way_none, round_fits, round_more, round_cut, round_stop, work_as}
use Rattle.status_call.specs.Views.{nothing_seen}
use Rattle.status_call.proofs.index_as_worktree.run_rounds.run_rounds.Goals as goal

pub loop-at-init : goal.loop-at-init
loop-at-init g c = record {
  way = rw c.none-totals.ensures (way_none _ _ _ _ _ _ (λ _. nothing_seen) (part_is_index c.args.considered.now) _ (omega arith));
  cut = λ k d h. absurd (omega arith);
  inside = omega arith;
  some = omega (arith, c.args.workers.now.some);
  few = omega (arith, c.args.workers.now.few);
}

pub run_round-requires : goal.run_round-requires
run_round-requires g c κs =
    let few : length c.as_slice-bounds.result.now ≤ 2 ^ 20 = omega (arith, ap length c.as_slice-bounds.ensures.value, c.in-Ok.ensures.few, c.in-Ok.bounds.ok.0, c.loop-at.invariant.few) in (
      search rules,
      (
        search rules,
        (
          search rules,
          (
            (refl, tt),
            (rw c.as_slice-bounds.ensures.value c.in-Ok.ensures.bounds, few),
          ),
        ),
      ),
    )

pub add-requires : goal.add-requires
add-requires g c =
    let way = c.loop-at.invariant.way in
    let slice : c.as_slice-bounds.result.now ≡ c.in-Ok.bounds.items = c.as_slice-bounds.ensures.value in
    let first : bound c.as_slice-bounds.result.now 0 ≡ c.loop-at.at = ap (λ l. bound l 0) slice ∙ c.in-Ok.ensures.first in
    let round = work_as _ _ _ _ _ _ _ _ _ _ _ _ _ _ (ap is_some c.for_pieces-needed.ensures.interrupt) first c.in-Ok-run_round.ensures in
    let end : c.args.considered.now.end < 2 ^ 64 = search rules in
    round_fits _ _ _ _ _ _ _ c.args.workers.now.count 0 c.loop-at.at _ 0 c.loop-at.totals _ _ _ way c.in-Ok-run_round.progress round (omega (arith, part_long c.args.considered.now, end))

pub returns-in-Err : goal.returns-in-Err
returns-in-Err g c =
    let way = c.loop-at.invariant.way in
    let fewer : c.for_pieces-needed.result.count ≤ c.args.workers.now.count = omega (arith, c.for_pieces-needed.ensures.count) in
    let slice : c.as_slice-bounds.result.now ≡ c.in-Ok.bounds.items = c.as_slice-bounds.ensures.value in
    let first : bound c.as_slice-bounds.result.now 0 ≡ c.loop-at.at = ap (λ l. bound l 0) slice ∙ c.in-Ok.ensures.first in
    let round = work_as _ _ _ _ _ _ _ _ _ _ _ _ _ _ (ap is_some c.for_pieces-needed.ensures.interrupt) first c.in-Err.ensures in
    round_stop _ _ _ _ _ _ _ _ _ c.loop-at.at _ _ c.loop-at.totals _ _ _ way c.in-Err.error fewer round

pub returns-then-progress : goal.returns-then-progress
returns-then-progress g c =
    let way = c.loop-at.invariant.way in
    let slice : c.as_slice-bounds.result.now ≡ c.in-Ok.bounds.items = c.as_slice-bounds.ensures.value in
    let first : bound c.as_slice-bounds.result.now 0 ≡ c.loop-at.at = ap (λ l. bound l 0) slice ∙ c.in-Ok.ensures.first in
    let round = work_as _ _ _ _ _ _ _ _ _ _ _ _ _ _ (ap is_some c.for_pieces-needed.ensures.interrupt) first c.in-Ok-run_round.ensures in
    rw c.add.ensures (round_cut _ _ _ _ _ _ _ _ _ c.loop-at.at _ _ c.loop-at.totals _ _ _ way c.in-Ok-run_round.progress round c.if-progress.true)

pub loop-at-preserved : goal.loop-at-preserved
loop-at-preserved g c =
    let way = c.loop-at.invariant.way in
    let items = c.in-Ok.bounds.items in
    let slice : c.as_slice-bounds.result.now ≡ items = c.as_slice-bounds.ensures.value in
    let first : bound c.as_slice-bounds.result.now 0 ≡ c.loop-at.at = ap (λ l. bound l 0) slice ∙ c.in-Ok.ensures.first in
    let round = work_as _ _ _ _ _ _ _ _ _ _ _ _ _ _ (ap is_some c.for_pieces-needed.ensures.interrupt) first c.in-Ok-run_round.ensures in
    let more = round_more _ _ _ _ _ _ _ c.args.workers.now.count 0 c.loop-at.at _ 0 c.loop-at.totals _ _ _ way c.in-Ok-run_round.progress round c.if-progress.false in
    let last : length items - 1 < length items = omega (arith, c.in-Ok.ensures.bounds.pieces) in
    let is = c.in-Ok.ensures.bounds in
    rw c.add.ensures (record {
      way = more;
      cut = rw slice (is.cuts (length items - 1) 0 last);
      inside = rw slice (omega (arith, is.inside (length items - 1) 0 last));
      some = omega (arith, c.loop-at.invariant.some, c.most_after-most_pieces.ensures.no_less);
      few = c.most_after-most_pieces.ensures.few c.loop-at.invariant.few;
    })
