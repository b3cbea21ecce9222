use Rattle.std.proofs.Common.{sym, ap, subst, ◌∙◌}
use Rattle.std.specs.Prelude.{vec_items}
use Rattle.status_cli.specs.ProfileStatuses.{IsProfilePrinted, changes_returned}
use Rattle.status_cli.specs.Printing.{result_map}
use Rattle.status_cli.proofs.Commands.{map_err}
use Rattle.status_cli.proofs.status.print_profile.Goals as goal

pub returns-in_err-changes-clause-printed : goal.returns-in_err-changes-clause-printed
returns-in_err-changes-clause-printed g c =
    subst (λ r. IsProfilePrinted c.args.profile c.args.wanted (g.O.Write.contents c.args.output.now) r (g.O.Write.contents c.print_place.new.output))
    (ap (result_map vec_items) c.in_err-changes.was ∙ sym (map_err changes_returned c.from_residual.result c.in_err-changes.field-0.0 c.from_residual.ensures.1)) c.print_place.ensures.printed

pub returns-clause-printed : goal.returns-clause-printed
returns-clause-printed g c =
    subst (λ r. IsProfilePrinted c.args.profile c.args.wanted (g.O.Write.contents c.args.output.now) r (g.O.Write.contents c.print_place.new.output))
    (ap (result_map vec_items) c.in_ok-changes.was) c.print_place.ensures.printed
