use Rattle.std.proofs.Common.{◌==◌, ◌∙◌, ap, length, sym}
use Rattle.status_callers.proofs.Clean.{nothing_found, nothing_recorded}
use Rattle.status_callers.proofs.statuses.is_clean.Goals as goal

pub returns-clause-clean : goal.returns-clause-clean
returns-clause-clean g c = λ modelled.
    let ok = c.in_ok-index_as_worktree_with_defaults in
    let value = sym (ap (λ rs. length rs == 0) c.as_slice.ensures.value) ∙ sym c.is_empty.ensures in (
      λ clean. nothing_found _ _ ok.field-0 _ _ modelled ok.ensures.uninterrupted ok.ensures.all c.new-found.ensures (value ∙ clean),
      λ clean. sym value ∙ nothing_recorded _ _ ok.field-0 _ _ modelled ok.ensures.uninterrupted ok.ensures.all c.new-found.ensures clean,
    )
