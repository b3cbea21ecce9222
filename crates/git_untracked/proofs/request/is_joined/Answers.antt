use Rattle.std.proofs.Common.{◌∙◌, sym}
use Rattle.git_untracked.proofs.Settled.{joined}
use Rattle.git_untracked.proofs.request.is_joined.Goals as goal

pub returns-then-is_word : goal.returns-then-is_word
returns-then-is_word c same =
    let parts = c.in-Some.ensures.cases in
    joined c.args.path.now c.args.folder.now c.args.name.now c.in-Some.front.now c.in-Some.back.now _ parts.1 parts.2
    (sym c.is_word.ensures ∙ c.if-is_word.true) (sym c.is_word-then-is_word.ensures ∙ same)
