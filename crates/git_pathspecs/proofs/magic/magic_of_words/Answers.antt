use Rattle.std.proofs.Common.{◌∙◌, ◌+◌, drop, ap, sym}
use Rattle.std.proofs.lemmas.List.{take_rest}
use Rattle.std.proofs.lemmas.Result.{err_from_is_err_and}
use Rattle.git_pathspecs.specs.Words.{result_and_then, with_words, words_of}
use Rattle.git_pathspecs.proofs.Parted.{first_word, last_word}
use Rattle.git_pathspecs.proofs.magic.magic_of_words.Goals as goal

pub returns-in_err-magic : goal.returns-in_err-magic
returns-in_err-magic c =
    let p = err_from_is_err_and c.from_residual.result c.from_residual.ensures.1 in let rest = c.words.rest.now in let at = c.in-Some.at in
    rw (p.1, p.2) (ap (result_and_then (λ more. with_words more (words_of (drop (at + 1) rest)))) c.in_err-magic.ensures
    ∙ (sym (first_word c.words.magic rest at (sym c.in-Some.ensures)) ∙ c.words.invariant))

pub words-preserved : goal.words-preserved
words-preserved c =
    let rest = c.words.rest.now in let at = c.in-Some.at in
    ap (λ text. with_words c.in_ok-magic.magic (words_of text)) (take_rest rest (at + 1))
    ∙ (ap (result_and_then (λ more. with_words more (words_of (drop (at + 1) rest)))) c.in_ok-magic.ensures
    ∙ (sym (first_word c.words.magic rest at (sym c.in-Some.ensures)) ∙ c.words.invariant))

pub returns : goal.returns
returns c = c.with_word-2.ensures ∙ (sym (last_word c.words.magic c.words.rest.now (sym c.in_default.ensures)) ∙ c.words.invariant)
