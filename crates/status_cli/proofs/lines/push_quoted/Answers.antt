use Rattle.std.proofs.Common.{◌∙◌, ◌++◌, ◌∷◌, [], List, ap}
use Rattle.std.proofs.lemmas.Result.{on_ok_weaker}
use Rattle.json.specs.Print.{print}
use Rattle.json.specs.Token.{Token, string}
use Rattle.status_cli.proofs.Quoted.{printed_string}
use Rattle.status_cli.proofs.lines.push_quoted.Goals as goal

pub returns : goal.returns
returns c =
    let writer = c.string-written.new.self in
    let text = c.args.text.now in
    let before = c.string-written.ensures.room.0 ∙ c.new-writer.ensures.before ∙ ap (λ v. v.items) c.replace.ensures.value in
    let prefix = c.into_inner.ensures.items ∙ ap (λ b. b ++ print writer.tokens) before in
    on_ok_weaker c.string-written.result
    (λ tokens.
    let all = tokens ∙ ap (λ (ts : List Token). ts ++ string text ∷ []) c.new-writer.ensures.tokens in
    prefix ∙ ap (λ ts. c.args.line.now.items ++ print ts) all ∙ ap (λ t. c.args.line.now.items ++ t) (printed_string text))
    c.string-written.ensures.ok
