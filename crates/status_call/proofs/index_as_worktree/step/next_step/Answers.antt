use Rattle.std.proofs.Common.{ap}
use Rattle.status_call.specs.declared.index_as_worktree.counts.Totals.{Totals}
use Rattle.status_call.specs.declared.index_as_worktree.step.Step.{Step}
use Rattle.status_call.specs.Considered.{part_entries}
use Rattle.status_call.proofs.Steps.{skipped_self}
use Rattle.status_call.proofs.ConsideredParts.{part_is_index}
use Rattle.status_call.proofs.EntrySteps.{head_flagged, head_excluded, head_some, head_conflict, head_decided, head_fault}
use Rattle.status_call.specs.Views.{nothing_seen}
use Rattle.status_call.proofs.index_as_worktree.step.next_step.Goals as goal

pub returns-then-is_flagged-clause-next : goal.returns-then-is_flagged-clause-next
returns-then-is_flagged-clause-next g c =
    let said = c.skipped_step.ensures in
    head_flagged c.args.considered.now.backing.now (part_entries c.args.considered.now) c.args.at _ _ c.entry-entry.ensures c.path-path.ensures c.requires.inside (part_is_index c.args.considered.now)
    (g.D.Decide.query c.args.decider.now) (g.D.Decide.allows c.args.decider.now) (λ _. nothing_seen) (g.met.D.Decide.free c.args.decider.now) c.requires.fresh
    c.is_flagged.result c.is_flagged.ensures c.if-is_flagged.true
    c.skipped_step.result (skipped_self _ _ said) (ap (λ (s : Step _ _). s.status) said) (ap (λ (s : Step _ _). s.totals.reads) said)

pub returns-then-not-includes-clause-next : goal.returns-then-not-includes-clause-next
returns-then-not-includes-clause-next g c =
    let said = c.skipped_step-then-not-includes.ensures in
    head_excluded c.args.considered.now.backing.now (part_entries c.args.considered.now) c.args.at _ _ c.entry-entry.ensures c.path-path.ensures c.requires.inside (part_is_index c.args.considered.now)
    (g.D.Decide.query c.args.decider.now) (g.D.Decide.allows c.args.decider.now) (λ _. nothing_seen) (g.met.D.Decide.free c.args.decider.now) c.requires.fresh
    c.is_flagged.result c.is_flagged.ensures c.if-is_flagged.false
    c.includes.result c.includes.ensures c.if-not-includes.true
    c.skipped_step-then-not-includes.result (skipped_self _ _ said) (ap (λ (s : Step _ _). s.status) said) (ap (λ (s : Step _ _). s.totals.reads) said)

pub conflict_step-requires : goal.conflict_step-requires
conflict_step-requires g c =
    head_some c.args.considered.now.backing.now (part_entries c.args.considered.now) c.args.at _ _ c.entry-entry.ensures c.path-path.ensures c.requires.inside (part_is_index c.args.considered.now)
    (g.D.Decide.query c.args.decider.now) (g.D.Decide.allows c.args.decider.now) (λ _. nothing_seen) (g.met.D.Decide.free c.args.decider.now) c.requires.fresh
    c.is_flagged.result c.is_flagged.ensures c.if-is_flagged.false
    c.includes.result c.includes.ensures c.if-not-includes.false
    c.stage_raw.result c.stage_raw.ensures c.if-stage_raw-ne0.true

pub returns-then-stage_raw-ne0-clause-next : goal.returns-then-stage_raw-ne0-clause-next
returns-then-stage_raw-ne0-clause-next g c =
    let said = c.conflict_step.ensures in
    head_conflict c.args.considered.now.backing.now (part_entries c.args.considered.now) c.args.at _ _ c.entry-entry.ensures c.path-path.ensures c.requires.inside (part_is_index c.args.considered.now)
    (g.D.Decide.query c.args.decider.now) (g.D.Decide.allows c.args.decider.now) (λ _. nothing_seen) (g.met.D.Decide.free c.args.decider.now) c.requires.fresh
    c.is_flagged.result c.is_flagged.ensures c.if-is_flagged.false
    c.includes.result c.includes.ensures c.if-not-includes.false
    c.stage_raw.result c.stage_raw.ensures c.if-stage_raw-ne0.true
    c.conflict_step.result (record { long = said.len; counted = ap (λ (t : Totals). t.counts) said.totals }) said.status (ap (λ (t : Totals). t.reads) said.totals)

pub returns-in-Ok-clause-next : goal.returns-in-Ok-clause-next
returns-in-Ok-clause-next g c =
    let said = c.decided_step.ensures in
    head_decided c.args.considered.now.backing.now (part_entries c.args.considered.now) c.args.at _ _ c.entry-entry.ensures c.path-path.ensures c.requires.inside (part_is_index c.args.considered.now)
    (g.D.Decide.query c.args.decider.now) (g.D.Decide.allows c.args.decider.now) (λ _. nothing_seen) (g.met.D.Decide.free c.args.decider.now) c.requires.fresh
    c.is_flagged.result c.is_flagged.ensures c.if-is_flagged.false
    c.includes.result c.includes.ensures c.if-not-includes.false
    c.stage_raw.result c.stage_raw.ensures c.if-stage_raw-ne0.false
    c.in-Ok.decided c.in-Ok.ensures.answer c.in-Ok.ensures.seen
    c.decided_step.result (record { long = said.len; counted = said.counts }) said.status said.reads

pub returns-in-Err-clause-next : goal.returns-in-Err-clause-next
returns-in-Err-clause-next g c =
    head_fault c.args.considered.now.backing.now (part_entries c.args.considered.now) c.args.at _ _ c.entry-entry.ensures c.path-path.ensures c.requires.inside (part_is_index c.args.considered.now)
    (g.D.Decide.query c.args.decider.now) (g.D.Decide.allows c.args.decider.now) (λ _. nothing_seen) (g.met.D.Decide.free c.args.decider.now) c.requires.fresh
    c.is_flagged.result c.is_flagged.ensures c.if-is_flagged.false
    c.includes.result c.includes.ensures c.if-not-includes.false
    c.stage_raw.result c.stage_raw.ensures c.if-stage_raw-ne0.false
    c.in-Err.error c.in-Err.ensures.answer c.in-Err.ensures.seen
