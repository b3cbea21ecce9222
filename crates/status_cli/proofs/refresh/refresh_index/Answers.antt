use Rattle.std.proofs.Common.{◌∙◌, ap, subst}
use Rattle.status_cli.specs.declared.status.inputs.WantedChanges.TheVariants.{Returned}
use Rattle.status_cli.specs.Printing.{result_map}
use Rattle.status_cli.specs.ProfileStatuses.{IsProfilePrinted, changes_returned}
use Rattle.status_cli.proofs.Refreshed.{index_kept, unrefreshed_index}
use Rattle.status_cli.proofs.refresh.refresh_index.Goals as goal

pub returns-in_err-index : goal.returns-in_err-index
returns-in_err-index g c =
    let old = g.O.Write.contents c.args.output.now in let new = g.O.Write.contents c.print_profile.new.output in
    unrefreshed_index c.args.profile c.args.timestamp old new c.from_residual.result c.in_err-index.field-0.0 c.from_residual.ensures.1
    (subst (λ r. IsProfilePrinted c.args.profile Returned old r new) (ap (result_map changes_returned) c.in_err-index.was) c.print_profile.ensures.printed)

pub returns : goal.returns
returns g c =
    let old = g.O.Write.contents c.args.output.now in let new = g.O.Write.contents c.print_profile.new.output in
    let kept = index_kept c.apply_changes.new.index c.set_timestamp.new.self c.set_timestamp.ensures.entries c.set_timestamp.ensures.backing in
    let stored = rw (c.deref.ensures.value, c.in_ok-index.ensures.index) at c.apply_changes.ensures.index in (
      c.in_ok-index.field-0.changes.items,
      subst (λ r. IsProfilePrinted c.args.profile Returned old r new) (ap (result_map changes_returned) c.in_ok-index.was) c.print_profile.ensures.printed,
      kept ∙ stored,
      c.set_timestamp.ensures.timestamp,
    )
