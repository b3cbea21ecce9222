use Rattle.std.proofs.Common.{ℕ, ◌+◌, List, ◌∷◌, take, ap, ◌∙◌, sym}
use Rattle.std.proofs.lemmas.List.{take_rest}
use Rattle.status_base.specs.Paths.{components}
use Rattle.status_base.proofs.LinkLemmas.{components_at, components_none}
use Rattle.status_base.proofs.components.first_component.Goals as goal

pub returns-in-Some-clause-parts : goal.returns-in-Some-clause-parts
returns-in-Some-clause-parts c =
    let path = c.args.path.now in
    let at = c.in-Some.at in
    components_at path at (sym c.first_slash.ensures ∙ c.in-Some.is)
    ∙ ap (λ (rest : List ℕ). take at path ∷ components rest) (sym (take_rest path (at + 1)))

pub returns-in-None-clause-parts : goal.returns-in-None-clause-parts
returns-in-None-clause-parts c = components_none c.args.path.now (sym c.first_slash.ensures ∙ c.in-None.is)
