use Rattle.std.proofs.Common.{◌∷◌, [], sym, ◌∙◌, append_assoc, length, rules, refl}
use Rattle.std.specs.Vec.Iter.{into_iter_items}
use Rattle.status_call.specs.Runs.{IsFaithfulTo}
use Rattle.status_call.specs.Reporting.{IsPlacedIn}
use Rattle.status_call.proofs.Feeding.{reports_none, reports_more, all_middle, fed_all, fed_until}
use Rattle.status_call.proofs.index_as_worktree.piece.feed.Goals as goal

pub loop-finding-init : goal.loop-finding-init
loop-finding-init g c = record {
  reported = reports_none (IsFaithfulTo c.args.considered.now) (g.V.VisitEntry.visits c.args.collector.now);
  rest = search rules;
}

pub feed_finding-requires : goal.feed_finding-requires
feed_finding-requires g c κs =
    ((refl, tt), all_middle (IsPlacedIn (length c.args.considered.now.entries.now)) c.loop-finding.yielded c.in-Some.finding (into_iter_items c.loop-finding.finding-iterator) (into_iter_items c.next.new.self) c.args.findings.items c.in-Some.ensures.steps.0 c.loop-finding.invariant.rest c.requires)

pub loop-finding-preserved : goal.loop-finding-preserved
loop-finding-preserved g c = record {
  reported = reports_more (IsFaithfulTo c.args.considered.now) c.loop-finding.yielded (c.in-Some.finding ∷ []) (g.V.VisitEntry.visits c.args.collector.now) (g.V.VisitEntry.visits c.loop-finding.collector) (g.V.VisitEntry.visits c.feed_finding.new.collector) c.loop-finding.invariant.reported c.in_default.ensures;
  rest = rw (append_assoc, ← c.in-Some.ensures.steps.0) c.loop-finding.invariant.rest;
}

pub returns-in-Err : goal.returns-in-Err
returns-in-Err g c =
    fed_until (IsFaithfulTo c.args.considered.now) c.loop-finding.yielded (into_iter_items c.loop-finding.finding-iterator) c.args.findings.items (g.V.VisitEntry.visits c.args.collector.now) (g.V.VisitEntry.visits c.loop-finding.collector) (g.V.VisitEntry.visits c.feed_finding.new.collector) c.loop-finding.invariant.rest c.loop-finding.invariant.reported c.in-Err.ensures

pub returns : goal.returns
returns g c =
    fed_all (IsFaithfulTo c.args.considered.now) c.loop-finding.yielded (into_iter_items c.loop-finding.finding-iterator) c.args.findings.items (g.V.VisitEntry.visits c.args.collector.now) (g.V.VisitEntry.visits c.loop-finding.collector) c.loop-finding.invariant.rest (sym c.loop-finding.finding-iterator.rest.ok.0 ∙ c.in-None.ensures.steps.0) c.loop-finding.invariant.reported
