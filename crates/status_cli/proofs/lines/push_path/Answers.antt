use Rattle.std.proofs.Common.{◌≡◌, ◌∙◌, ◌++◌, OnOk, ap, subst}
use Rattle.std.specs.Str.Lossy.{utf8_lossy}
use Rattle.bstr.specs.BStr.{bstr_bytes}
use Rattle.bstr.proofs.lemmas.LossyLemmas.{lossy_chars-utf8_lossy}
use Rattle.json.specs.Print.{quoted}
use Rattle.status_cli.proofs.lines.push_path.Goals as goal

pub returns : goal.returns
returns c =
    let shown : c.as_str.result.now ≡ utf8_lossy (bstr_bytes c.args.path) =
    c.as_str.ensures.value ∙ c.in_ok-text.ensures.text ∙ lossy_chars-utf8_lossy c.as_bytes.result.now ∙ ap utf8_lossy c.as_bytes.ensures in
    subst (λ t. OnOk c.push_quoted.result (c.push_quoted.new.line.items ≡ c.args.line.now.items ++ quoted t)) shown c.push_quoted.ensures
