use Rattle.std.proofs.Common.{◌≡◌, [], inl, inr, refl, sym, ◌∙◌}
use Rattle.std.specs.Prelude.{vec_items}
use Rattle.bstr.specs.Owned.{bstring_bytes}
use Rattle.status_cli.specs.declared.failure.Failure.TheVariants.{Memory}
use Rattle.status_cli.specs.ProfileStatuses.{asked_by, walked_by}
use Rattle.status_cli.proofs.Commands.{map_failed}
use Rattle.status_cli.proofs.NodesPut.{at_prefix, none_long}
use Rattle.status_cli.proofs.status.print_prefixed.Goals as goal

pub returns-then-is_empty-clause-printed : goal.returns-then-is_empty-clause-printed
returns-then-is_empty-clause-printed g c =
    let s = c.args.status in let o = s.request.options in
    let empty : bstring_bytes o.prefix ≡ [] = none_long _ (rw (c.as_bytes.ensures ∙ c.as_bstr-prefix.ensures) at (sym c.if-is_empty.ensures)) in
    inr (at_prefix _ (walked_by g.K.Walk.walking s) (asked_by s.request) _ _ _ [] (bstring_bytes o.prefix) (sym empty) c.print_paths.ensures.printed)

pub returns-in_err-prefix-clause-printed : goal.returns-in_err-prefix-clause-printed
returns-in_err-prefix-clause-printed g c = inl (map_failed vec_items c.from_residual.result Memory (λ f. f ≡ Memory) c.from_residual.ensures.1 refl, refl)

pub returns-clause-printed : goal.returns-clause-printed
returns-clause-printed g c =
    let s = c.args.status in let o = s.request.options in
    let same : c.in_ok-prefix.prefix ≡ bstring_bytes o.prefix = c.in_ok-prefix.ensures ∙ c.as_bstr-prefix.ensures in
    inr (at_prefix _ (walked_by g.K.Walk.walking s) (asked_by s.request) _ _ _ c.in_ok-prefix.prefix (bstring_bytes o.prefix) same c.print_paths-2.ensures.printed)
