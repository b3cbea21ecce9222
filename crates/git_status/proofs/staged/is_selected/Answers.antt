use Rattle.std.proofs.Common.{sym, ap, ◌∙◌}
use Rattle.std.proofs.lemmas.List.Folds.{list_any_at}
use Rattle.bstr.specs.BStr.{bstr_bytes}
use Rattle.status_index.specs.Mode.{is_submodule}
use Rattle.git_status.proofs.staged.is_selected.Goals as goal

pub returns-then-includes : goal.returns-then-includes
returns-then-includes g c =
    sym (list_any_at (λ e. g.P.Pathspec.included c.args.paths.now (bstr_bytes c.args.path) (is_submodule e.mode)) c.args.sides.now c.loop-side.side-index _ c.loop-side-test.true
    (ap (g.P.Pathspec.included c.args.paths.now (bstr_bytes c.args.path)) (sym c.is_submodule.ensures) ∙ (sym c.includes.ensures ∙ c.if-includes.true)))
