use Rattle.std.proofs.Common.{◌+◌, List, ℕ, ◌∷◌, ◌++◌, take, sym, ap, ◌∙◌}
use Rattle.std.proofs.lemmas.List.{take_rest}
use Rattle.git_staged.proofs.Puts.{first_name, one_component}
use Rattle.git_staged.proofs.builder.split_first.Goals as goal

pub returns-in-Some : goal.returns-in-Some
returns-in-Some c =
    let path = c.args.path.now in
    let slash = c.in-Some.slash in
    let first = first_name path slash (sym c.first_slash.ensures ∙ c.in-Some.is) in
    (first.0, first.1 ∙ ap (λ (rest : List ℕ). take slash path ++ 47 ∷ rest) (sym (take_rest path (slash + 1))))

pub returns-in-None : goal.returns-in-None
returns-in-None c = one_component c.args.path.now (sym c.first_slash.ensures ∙ c.in-None.is)
