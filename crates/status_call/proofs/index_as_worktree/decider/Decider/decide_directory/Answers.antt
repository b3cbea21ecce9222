use Rattle.std.proofs.Common.{None, Ok, inr, refl, sym, ap, ◌∙◌, rules, Err}
use Rattle.std.proofs.lemmas.Result.{err_from_is_err_and}
use Rattle.bstr.specs.BStr.{bstr_bytes}
use Rattle.status_index.specs.Entries.{entry_at}
use Rattle.status_call.proofs.SightCases.{directory_done, directory_failed}
use Rattle.status_call.proofs.index_as_worktree.decider.Decider.decide_directory.Goals as goal

pub returns-then-not-is_submodule-clause-seen : goal.returns-then-not-is_submodule-clause-seen
returns-then-not-is_submodule-clause-seen g c = inr (record {
  said = Ok None;
  allowed = λ yes. absurd (let no = sym c.is_submodule.ensures ∙ c.if-not-is_submodule.true in cc);
  decided = search rules;
})

pub returns-in_err-status-clause-seen : goal.returns-in_err-status-clause-seen
returns-in_err-status-clause-seen g c =
    let e = entry_at (bstr_bytes c.args.path) c.args.entry.now in
    let p = err_from_is_err_and c.from_residual.result c.from_residual.ensures.1 in
    directory_failed e (g.S.SubmoduleStatus.may_report c.args.self.now.inputs.submodule e) (sym c.is_submodule.ensures ∙ c.if-not-is_submodule.false) c.in_err-status.field-0.0 c.from_residual.result (p.1 ∙ ap Err p.2) c.in_err-status.ensures.seen

pub returns-clause-seen : goal.returns-clause-seen
returns-clause-seen g c =
    let e = entry_at (bstr_bytes c.args.path) c.args.entry.now in
    directory_done e (g.S.SubmoduleStatus.may_report c.args.self.now.inputs.submodule e) (sym c.is_submodule.ensures ∙ c.if-not-is_submodule.false) c.in_ok-status.status c.unread-2.result c.unread-2.ensures c.in_ok-status.ensures.seen

pub returns-in_err-status-clause-same : goal.returns-in_err-status-clause-same
returns-in_err-status-clause-same g c = rw (c.submodule_status.ensures.modelled, c.submodule_status.ensures.same) refl

pub returns-clause-same : goal.returns-clause-same
returns-clause-same g c = rw (c.submodule_status.ensures.modelled, c.submodule_status.ensures.same) refl
