use Rattle.std.proofs.Common.{◌≡◌, false, IsTrue, length, slice_index, inl, inr, arith, rules}
use Rattle.std.proofs.lemmas.Bool.{cases_lt}
use Rattle.std.proofs.lemmas.Grind.{common_steps}
use Rattle.status_base.specs.Paths.{is_slash}
use Rattle.status_base.proofs.LinkLemmas.{length-directories, length-directories-more, length-directories-same}
use Rattle.status_base.proofs.OpenWays.{clear_bare, clear_more, open_bare, open_more, way_barred, way_open}
use Rattle.status_base.proofs.stack.barrier.first_barrier.Goals as goal
use Rattle.status_base.proofs.stack.barrier.first_barrier.Goals.{then-path-at-eq47+in_default, else-path-at-eq47}

pub returns-in-Some-clause-seen : goal.returns-in-Some-clause-seen
returns-in-Some-clause-seen g c = λ opened.
    way_barred (g.W.Worktree.may_stat c.args.worktree.now) c.args.path.now c.loop-at.at c.in-Some.error (omega arith) c.in-Some.ensures.seen (c.loop-at.invariant.«open» opened)

pub returns-clause-seen : goal.returns-clause-seen
returns-clause-seen g c = λ opened.
    way_open (g.W.Worktree.may_stat c.args.worktree.now) c.args.path.now c.loop-at.at (omega arith) (c.loop-at.invariant.«open» opened)

pub returns-in-Some-clause-few : goal.returns-in-Some-clause-few
returns-in-Some-clause-few g c =
    let path = c.args.path.now in
    let at = c.loop-at.at in
    let slash : IsTrue (is_slash (slice_index path at)) = search rules in
    omega (arith, length-directories-more path at slash, length-directories path c.args.from at (omega arith))

pub returns-in-Some-clause-counted : goal.returns-in-Some-clause-counted
returns-in-Some-clause-counted g c =
    let path = c.args.path.now in
    let at = c.loop-at.at in
    let slash : IsTrue (is_slash (slice_index path at)) = search rules in
    omega (arith, length-directories-more path at slash, length-directories path c.args.from at (omega arith))

pub loop-at-preserved : goal.loop-at-preserved
loop-at-preserved g c =
    let path = c.args.path.now in
    let at = c.loop-at.at in
    record {
      clear = λ modelled clear. (let lstat = g.W.Worktree.lstat_of c.args.worktree.now in
          elim c.if-path-at-eq47.branch [
            | then-path-at-eq47+in_default w ↦ clear_more path at lstat (w.in_default.ensures.barrier modelled) (c.loop-at.invariant.clear modelled clear)
            | else-path-at-eq47 w ↦ (let bare : is_slash (slice_index path at) ≡ false = search rules in
                clear_bare path at lstat bare (c.loop-at.invariant.clear modelled clear))
          ]);
      «open» = λ opened. (let may = g.W.Worktree.may_stat c.args.worktree.now in
          elim c.if-path-at-eq47.branch [
            | then-path-at-eq47+in_default w ↦ open_more may path at (omega arith) w.in_default.ensures.seen (c.loop-at.invariant.«open» opened)
            | else-path-at-eq47 w ↦ (let bare : is_slash (slice_index path at) ≡ false = search rules in
                open_bare may path at bare (c.loop-at.invariant.«open» opened))
          ]);
      within = omega arith;
      looks = grind (arith, common_steps);
      few = elim c.if-path-at-eq47.branch [
        | then-path-at-eq47+in_default w ↦ (let slash : IsTrue (is_slash (slice_index path at)) = search rules in
            omega (arith, length-directories-more path at slash, length-directories path c.args.from at (omega arith)))
        | else-path-at-eq47 w ↦ (let bare : is_slash (slice_index path at) ≡ false = search rules in
            omega (arith, length-directories-same path at bare))
      ];
      counted = elim c.if-path-at-eq47.branch [
        | then-path-at-eq47+in_default w ↦ (let slash : IsTrue (is_slash (slice_index path at)) = search rules in
            omega (arith, length-directories-more path at slash, length-directories path c.args.from at (omega arith)))
        | else-path-at-eq47 w ↦ (let bare : is_slash (slice_index path at) ≡ false = search rules in
            omega (arith, length-directories-same path at bare))
      ];
    }

pub returns-clause-few : goal.returns-clause-few
returns-clause-few g c =
    let path = c.args.path.now in
    let at = c.loop-at.at in
    elim (cases_lt (length path) at) [
      | inl past ↦ omega (arith, length-directories path at c.args.from (omega arith))
      | inr near ↦ omega (arith, length-directories path at (length path) near)
    ]

pub returns-clause-counted : goal.returns-clause-counted
returns-clause-counted g c =
    let path = c.args.path.now in
    let at = c.loop-at.at in
    omega (arith, length-directories path (length path) at (omega arith))
