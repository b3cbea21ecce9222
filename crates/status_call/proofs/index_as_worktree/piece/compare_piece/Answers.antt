use Rattle.std.proofs.Common.{◌≡◌, refl, ap, ◌∙◌, ◌+◌, ◌++◌, ◌<◌, ◌^◌, Ok, arith, rules}
use Rattle.status_call.specs.Considered.{part_entries}
use Rattle.status_call.specs.Records.{record_by}
use Rattle.status_call.proofs.Pieces.{done_none, done_next, done_more, sums_fit, not_past, fresh_cut, out_of_memory}
use Rattle.status_call.proofs.EntrySteps.{IsNext-kept, IsFault-kept, when_ok, when_err}
use Rattle.status_call.proofs.ConsideredParts.{part_is_index, part_long}
use Rattle.status_call.specs.Views.{nothing_seen}
use Rattle.status_call.proofs.index_as_worktree.piece.compare_piece.Goals as goal

pub loop-at-init : goal.loop-at-init
loop-at-init g c =
    let es = part_entries c.args.considered.now in
    let q = g.D.Decide.query c.args.decider.now in
    let may = g.D.Decide.allows c.args.decider.now in
    let none = done_none q may (λ _. nothing_seen) c.args.considered.now.start es (part_is_index c.args.considered.now) c.args.range.start (omega (arith, c.requires.order, c.requires.inside)) in
    record {
      working = record {
        done = rw (c.new-findings.ensures.items, c.none-totals.ensures) none;
        fresh = fresh_cut q es c.args.range.start c.requires.cut;
        upto = c.requires.order;
      };
      same = refl;
      within = λ e v allowed. allowed;
    }

pub returns-in-Err-clause-piece : goal.returns-in-Err-clause-piece
returns-in-Err-clause-piece g c =
    let es = part_entries c.args.considered.now in
    let here = c.loop-at.invariant in
    rw c.ended-in-Err.ensures (record {
      done = here.working.done;
      through = (c.loop-at-test.true, IsFault-kept _ _ _ _ here.same here.within es c.loop-at.at c.in-Err.error c.in-Err.ensures.next);
    })

pub returns-then-is_err-clause-piece : goal.returns-then-is_err-clause-piece
returns-then-is_err-clause-piece g c =
    let same = when_err (c.push_status.new.findings.items ≡ c.loop-at.findings.items) c.push_status.result c.is_err.result c.is_err.ensures.value c.if-is_err.true c.push_status.ensures.err in
    rw c.ended-then-is_err.ensures (record {
      done = rw same c.loop-at.invariant.working.done;
      through = (c.loop-at-test.true, out_of_memory _ _ (λ _. nothing_seen) (g.met.D.Decide.free c.args.decider.now) _ c.loop-at.at);
    })

pub returns-in-Err-clause-within : goal.returns-in-Err-clause-within
returns-in-Err-clause-within g c = λ e v allowed. c.loop-at.invariant.within e v (c.in-Err.ensures.within e v allowed)

pub returns-then-is_err-clause-within : goal.returns-then-is_err-clause-within
returns-then-is_err-clause-within g c = λ e v allowed. c.loop-at.invariant.within e v (c.next_step.ensures.within e v allowed)

pub add-requires : goal.add-requires
add-requires g c =
    let es = part_entries c.args.considered.now in
    let q = g.D.Decide.query c.args.decider.now in
    let may = g.D.Decide.allows c.args.decider.now in
    let here = c.loop-at.invariant in
    let step = c.in-Ok.step in
    let next = IsNext-kept _ q _ may here.same here.within es c.loop-at.at step c.in-Ok.ensures.next in
    let end : c.args.considered.now.end < 2 ^ 64 = search rules in
    sums_fit q may c.args.considered.now.start es c.args.range.start c.loop-at.at (c.loop-at.at + step.len) c.loop-at.findings.items (record_by (c.args.considered.now.start + c.loop-at.at) (Ok step.status)) c.loop-at.totals step.totals
    here.working.done (done_next q may c.args.considered.now.start es c.loop-at.at step next) (omega (arith, part_long c.args.considered.now, end))

pub loop-at-preserved : goal.loop-at-preserved
loop-at-preserved g c =
    let es = part_entries c.args.considered.now in
    let q = g.D.Decide.query c.args.decider.now in
    let may = g.D.Decide.allows c.args.decider.now in
    let start = c.args.considered.now.start in
    let at = c.loop-at.at in
    let step = c.in-Ok.step in
    let here = c.loop-at.invariant in
    let next = IsNext-kept _ q _ may here.same here.within es at step c.in-Ok.ensures.next in
    let more = record_by (start + at) (Ok step.status) in
    let done = done_more q may start es c.args.range.start at (at + step.len) c.loop-at.findings.items more c.loop-at.totals step.totals here.working.done (done_next q may start es at step next) in
    let position = c.index_position-entry_index in
    let said = when_ok (c.push_status.new.findings.items ≡ c.loop-at.findings.items ++ record_by position.result (Ok step.status)) c.push_status.result c.is_err.result c.is_err.ensures.value c.if-is_err.false c.push_status.ensures.ok in
    let pushed = said ∙ ap (λ n. c.loop-at.findings.items ++ record_by n (Ok step.status)) position.ensures in
    record {
      working = record {
        done = rw (pushed, c.add.ensures) done;
        fresh = next.fresh;
        upto = not_past q may start es c.args.range.end at step c.requires.end c.loop-at-test.true (omega (arith, c.requires.inside)) next;
      };
      same = c.next_step.ensures.same ∙ here.same;
      within = λ e v allowed. here.within e v (c.next_step.ensures.within e v allowed);
    }
