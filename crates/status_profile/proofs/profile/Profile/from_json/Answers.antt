use Rattle.std.proofs.Common.{◌∙◌, ap, Some}
use Rattle.std.proofs.lemmas.Result.{err_from_is_err_and}
use Rattle.serde_json.specs.View.{view}
use Rattle.status_profile.proofs.Readings.{profile_read, profile_unread}
use Rattle.status_profile.proofs.profile.Profile.from_json.Goals as goal

pub returns-in_err-value-clause-read : goal.returns-in_err-value-clause-read
returns-in_err-value-clause-read c =
    let p = err_from_is_err_and c.from_residual.result c.from_residual.ensures.1 in
    rw (p.1, p.2) (profile_unread c.args.text.now c.args.kind c.in_err-value.field-0.0 c.in_err-value.ensures)

pub returns-clause-read : goal.returns-clause-read
returns-clause-read c =
    let says = c.in_ok-value.ensures in
    profile_read c.args.text.now (view c.in_ok-value.value) says.0 (says.1.1 ∙ ap Some says.1.2) c.args.kind c.from_value.result c.from_value.ensures.read
