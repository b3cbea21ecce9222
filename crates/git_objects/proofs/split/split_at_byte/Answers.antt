use Rattle.std.proofs.Common.{◌+◌, List, ℕ, ◌∷◌, ◌++◌, take, sym, ap, ◌∙◌}
use Rattle.std.proofs.lemmas.List.{take_rest}
use Rattle.git_objects.proofs.FirstByte.{split_at_first}
use Rattle.git_objects.proofs.split.split_at_byte.Goals as goal

pub returns-in-Some : goal.returns-in-Some
returns-in-Some c =
    let bytes = c.args.bytes.now in
    let at = c.in-Some.at in
    let first = split_at_first c.args.value bytes at (sym c.position_of.ensures ∙ c.in-Some.is) in
    (first.0, first.1 ∙ ap (λ (rest : List ℕ). take at bytes ++ c.args.value ∷ rest) (sym (take_rest bytes (at + 1))))
