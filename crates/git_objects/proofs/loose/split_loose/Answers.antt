use Rattle.std.proofs.Common.{◌≡◌, List, ℕ, ◌++◌, ◌∷◌, [], length, decimal, ap, ◌∙◌, rules}
use Rattle.git_objects.specs.Objects.{kind_name}
use Rattle.git_objects.proofs.Header.{parts_joined}
use Rattle.git_objects.proofs.loose.split_loose.Goals as goal

pub returns : goal.returns
returns c =
    let name = c.in-Some-split_at_byte.name.now in
    let len = c.in-Some-split_at_byte.len.now in
    let content = c.in-Some.content.now in
    let named : kind_name c.in-Some-from_name.kind ≡ name = c.in-Some-from_name.ensures in
    let digits : decimal (length content) ≡ len = c.is_decimal.ensures.0 (search rules) in
    ap (λ (front : List ℕ). front ++ 32 ∷ [] ++ decimal (length content) ++ 0 ∷ [] ++ content) named
    ∙ (ap (λ (d : List ℕ). name ++ 32 ∷ [] ++ d ++ 0 ∷ [] ++ content) digits
    ∙ parts_joined name len content c.in-Some.header.now c.args.bytes.now c.in-Some-split_at_byte.ensures.1 c.in-Some.ensures.1)
