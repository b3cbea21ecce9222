use Rattle.std.proofs.Common.{◌≡◌, [], refl, sym}
use Rattle.std.specs.Prelude.{vec_items}
use Rattle.status_cli.specs.Printing.{result_map}
use Rattle.status_cli.proofs.Commands.{done_alike, failed_alike, if_failed, joined_alike, map_failed}
use Rattle.status_cli.proofs.NodesPut.{joined_over, plain_over}
use Rattle.status_cli.proofs.status.print_paths.Goals as goal

pub returns-in_err-print_joined-clause-printed : goal.returns-in_err-print_joined-clause-printed
returns-in_err-print_joined-clause-printed g c =
    let e = c.in_err-print_joined.field-0.0 in
    let r = result_map vec_items c.from_residual.result in
    let failed = map_failed vec_items c.from_residual.result e (λ f. f ≡ e) c.from_residual.ensures.1 refl in
    joined_over _ _ _ _ _ _ _ _ (sym c.if-is_joined.ensures) (if_failed r (λ f. f ≡ e) (λ changes. changes ≡ []) failed)
    (joined_alike c.print_joined.result r (failed_alike c.print_joined.result r e c.in_err-print_joined.was failed) _ _ _ _ _ _ c.print_joined.ensures)

pub returns-then-is_joined-clause-printed : goal.returns-then-is_joined-clause-printed
returns-then-is_joined-clause-printed g c =
    joined_over _ _ _ _ _ _ _ _ (sym c.if-is_joined.ensures) c.new.ensures.items
    (joined_alike c.print_joined.result _ (done_alike _ c.in_ok-print_joined.field-0 _ c.in_ok-print_joined.was) _ _ _ _ _ _ c.print_joined.ensures)

pub returns-clause-printed : goal.returns-clause-printed
returns-clause-printed g c = plain_over _ _ _ _ _ _ _ _ (sym c.if-is_joined.ensures) c.print_plain.ensures.printed
