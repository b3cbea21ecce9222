use Rattle.std.proofs.Common.{◌∙◌, ap, Some}
use Rattle.std.proofs.lemmas.Result.{err_from_is_err_and}
use Rattle.serde_json.specs.View.{view}
use Rattle.status_profile.proofs.Readings.{history_read, history_unread}
use Rattle.status_profile.proofs.history.History.from_json.Goals as goal

pub returns-in_err-value : goal.returns-in_err-value
returns-in_err-value c =
    let p = err_from_is_err_and c.from_residual.result c.from_residual.ensures.1 in
    rw (p.1, p.2) (history_unread c.args.text.now c.in_err-value.field-0.0 c.in_err-value.ensures)

pub returns : goal.returns
returns c =
    let says = c.in_ok-value.ensures in
    history_read c.args.text.now (view c.in_ok-value.value) says.0 (says.1.1 ∙ ap Some says.1.2) c.read_history.result c.read_history.ensures
