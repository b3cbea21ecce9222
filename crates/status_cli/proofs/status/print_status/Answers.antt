use Rattle.std.proofs.Common.{[], Ok, inr, sym, ap, subst, ◌∙◌}
use Rattle.status_profile.specs.Profiles.{IsRead}
use Rattle.status_profile.specs.declared.options.Kind.TheVariants.{Any}
use Rattle.status_cli.specs.declared.status.inputs.WantedChanges.TheVariants.{Dropped}
use Rattle.status_cli.specs.Printing.{result_map}
use Rattle.status_cli.specs.ProfileStatuses.{IsProfilePrinted, IsTextPrinted, changes_returned}
use Rattle.status_cli.proofs.Commands.{map_err, of_known, place_dropped}
use Rattle.status_cli.proofs.status.print_status.Goals as goal

pub returns-in_err-print_profile : goal.returns-in_err-print_profile
returns-in_err-print_profile g c =
    let text = c.in_ok-text.text.items in
    let p = c.in_ok-profile.profile in
    let old = g.O.Write.contents c.args.output.now in let new = g.O.Write.contents c.print_profile.new.output in
    let e = c.in_err-print_profile.field-0.0 in
    let failed = c.from_residual-in_err-print_profile in
    let read : IsRead Any text (Ok p) = rw c.as_slice.ensures.value at c.in_ok-profile.ensures.read in
    let printed = subst (λ r. IsProfilePrinted p Dropped old r new) (ap (result_map changes_returned) c.in_err-print_profile.was ∙ sym (map_err (λ _. []) failed.result e failed.ensures.1)) c.print_profile.ensures.printed in
    of_known (λ all. IsTextPrinted Any all Dropped old (result_map (λ _. []) failed.result) new) _ text c.in_ok-text.ensures.ok (inr (p, read, printed))

pub returns : goal.returns
returns g c =
    let text = c.in_ok-text.text.items in
    let p = c.in_ok-profile.profile in
    let old = g.O.Write.contents c.args.output.now in let new = g.O.Write.contents c.print_profile.new.output in
    let read : IsRead Any text (Ok p) = rw c.as_slice.ensures.value at c.in_ok-profile.ensures.read in
    let done : IsProfilePrinted p Dropped old (Ok c.in_ok-print_profile.field-0.changes.items) new = subst (λ r. IsProfilePrinted p Dropped old r new) (ap (result_map changes_returned) c.in_ok-print_profile.was) c.print_profile.ensures.printed in
    let printed = subst (λ changes. IsProfilePrinted p Dropped old (Ok changes) new) (place_dropped p old _ new p.place done) done in
    of_known (λ all. IsTextPrinted Any all Dropped old (Ok []) new) _ text c.in_ok-text.ensures.ok (inr (p, read, printed))
