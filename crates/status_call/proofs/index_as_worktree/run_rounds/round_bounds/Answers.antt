use Rattle.std.proofs.Common.{◌≡◌, ap, ◌∙◌, List, ℕ, [], ◌∷◌, ◌++◌, ◌-◌, length, length-append, arith}
use Rattle.status_call.specs.Considered.{part_entries}
use Rattle.status_call.proofs.Bounds.{bounds_begin, bounds_grow, bounds_are}
use Rattle.status_call.proofs.index_as_worktree.run_rounds.round_bounds.Goals.{then-loop-at-test+else-len-most, else-loop-at-test}
use Rattle.status_call.proofs.index_as_worktree.run_rounds.round_bounds.Goals as goal

pub loop-at-init : goal.loop-at-init
loop-at-init c =
    let es = part_entries c.args.considered.now in
    let items : c.push.new.self.items ≡ c.args.from ∷ [] = c.in_ok-push.ensures.items ∙ ap (λ (l : List ℕ). l ++ c.args.from ∷ []) c.new-bounds.ensures.items in
    record {
      growing = rw items (bounds_begin es c.args.piece_len c.args.from (omega (arith, c.requires.inside)) c.requires.cut);
      few = omega (arith, ap length items, c.requires.most);
    }

pub loop-at-preserved : goal.loop-at-preserved
loop-at-preserved c =
    let es = part_entries c.args.considered.now in
    let at = c.loop-at.at in
    let to = c.piece_end-at.result in
    let bounds = c.loop-at.bounds.items in
    let items : c.push-in-loop-at.new.self.items ≡ bounds ++ to ∷ [] = c.in_ok-push-2.ensures.items in
    record {
      growing = rw items (bounds_grow es c.args.piece_len c.args.from at to bounds (record { more = c.piece_end-at.ensures.more; full = omega (arith, c.piece_end-at.ensures.full); tight = c.piece_end-at.ensures.tight }) (omega (arith, c.piece_end-at.ensures.within)) c.piece_end-at.ensures.cut c.loop-at.invariant.growing);
      few = omega (arith, ap length items, length-append bounds (to ∷ []), c.if-len-most.true, c.len-in-loop-at.ensures, c.loop-at.bounds.ok.0);
    }

pub returns : goal.returns
returns c =
    let es = part_entries c.args.considered.now in
    let bounds = c.loop-at.bounds.items in
    let more : length bounds ≡ 1 → c.loop-at.at ≡ c.args.from → ⊥ = λ one same.
    elim c.loop-at-test.branch [
      | then-loop-at-test+else-len-most w ↦ omega (arith, one, w.if-len-most.false, w.len-in-loop-at.ensures, c.loop-at.bounds.ok.0, c.requires.most)
      | else-loop-at-test w ↦ omega (arith, same, w.loop-at-test.false, c.len.ensures, c.requires.inside)
    ] in
    record {
      bounds = bounds_are es c.args.piece_len c.args.from c.loop-at.at bounds more c.loop-at.invariant.growing;
      first = c.loop-at.invariant.growing.first;
      few = omega (arith, c.loop-at.invariant.few, c.loop-at.bounds.ok.0);
      pieces = c.loop-at.invariant.growing.ends;
      filled = λ less.
          elim c.loop-at-test.branch [
            | then-loop-at-test+else-len-most w ↦ absurd (omega (arith, less, w.if-len-most.false, w.len-in-loop-at.ensures, c.loop-at.bounds.ok.0))
            | else-loop-at-test w ↦
                let here = c.loop-at.invariant.growing in
                omega (arith, w.loop-at-test.false, c.len.ensures, here.last, here.inside (length bounds - 1) 0 (omega (arith, here.some_bound)))
          ];
    }
