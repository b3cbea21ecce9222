use Rattle.std.proofs.Common.{refl, sym, ap, ◌∙◌, Some, is_some, arith}
use Rattle.std.proofs.lemmas.Bool.{true≢false}
use Rattle.status_index.specs.States.{index_of}
use Rattle.status_walk.specs.WalkedNodes.{is_cancelling}
use Rattle.status_walk.proofs.Walking.{begins, passed_over, passed, at_end}
use Rattle.status_walk.proofs.untracked.UntrackedWalkWalkMemoryWorktree.walk.Goals as goal

pub loop-path-init : goal.loop-path-init
loop-path-init g c =
    let nodes = c.nodes-path-items.ensures in
    record {
      keeps = refl;
      going = c.requires;
      way = rw c.into_iter-path-iterator.ensures.into_iter_gives
          (begins c.args.worktree.now (index_of c.args.index.now) (g.P.Pathspec.included c.args.pathspec.now)
          (g.D.Delegate.state c.args.delegate.now).keeps (g.D.Delegate.state c.args.delegate.now).kept c.nodes-path-items.result nodes.nodes nodes.fits);
    }

pub emit_untracked-requires : goal.emit_untracked-requires
emit_untracked-requires g c = c.loop-path.invariant.going

pub loop-path-preserved-in-None-2 : goal.loop-path-preserved-in-None-2
loop-path-preserved-in-None-2 g c =
    let u = c.loop-path.invariant in
    let way = rw c.in-Some.ensures.steps at u.way in
    let answer = rw (c.new-path.ensures, c.as_slice.ensures.value, u.keeps) at c.in_ok-emit_untracked.ensures in
    record {
      keeps = answer.keeps;
      going = answer.cancelled ∙ ap is_cancelling c.in-None-2.is;
      way = passed_over _ _ _ _ _ _ _ _ _ _ way answer.kept (sym answer.passed ∙ ap is_some c.in-None-2.is);
    }

pub overflow_add-emitted : goal.overflow_add-emitted
overflow_add-emitted g c = omega (arith, c.loop-path.invariant.way.fits)

pub loop-path-preserved : goal.loop-path-preserved
loop-path-preserved g c =
    let u = c.loop-path.invariant in
    let way = rw c.in-Some.ensures.steps at u.way in
    let answer = rw (c.new-path.ensures, c.as_slice.ensures.value, u.keeps) at c.in_ok-emit_untracked.ensures in
    let some = c.in-Some-Continue.is ∙ ap Some c.in-Some-Continue.field-0-is in
    record {
      keeps = answer.keeps;
      going = answer.cancelled ∙ ap is_cancelling some;
      way = passed _ _ _ _ _ _ _ _ _ _ way answer.kept (sym answer.passed ∙ ap is_some some);
    }

pub overflow_add-result : goal.overflow_add-result
overflow_add-result g c = omega (arith, c.loop-path.invariant.way.fits)

pub returns-in-Some-Cancel : goal.returns-in-Some-Cancel
returns-in-Some-Cancel g c =
    let u = c.loop-path.invariant in
    let way = rw c.in-Some.ensures.steps at u.way in
    let answer = rw (c.new-path.ensures, c.as_slice.ensures.value, u.keeps) at c.in_ok-emit_untracked.ensures in
    let some = c.in-Some-Cancel.is ∙ ap Some c.in-Some-Cancel.field-0-is in
    let after = passed _ _ _ _ _ _ _ _ _ _ way answer.kept (sym answer.passed ∙ ap is_some some) in
    record {
      ended = sym (answer.cancelled ∙ ap is_cancelling some);
      inside = after.inside;
      begun = λ h. omega arith;
      kept = after.has;
      whole = λ h. absurd (true≢false h);
    }

pub returns : goal.returns
returns g c =
    let u = c.loop-path.invariant in
    let way = rw c.in-None.ensures.steps.0 at u.way in
    record {
      ended = sym u.going;
      inside = way.inside;
      begun = λ h. absurd (true≢false (sym h));
      kept = way.has;
      whole = λ h. (at_end _ _ _ _ _ _ _ way, refl);
    }
