use Rattle.std.proofs.Common.{◌≡◌, ◌∙◌, length, map, subst, sym, ap}
use Rattle.std.proofs.lemmas.List.{map_push}
use Rattle.git_patterns.specs.Items.{all_of}
use Rattle.git_patterns.proofs.Items.{after, all, all_of_none, all_of_some, all_read, read_more, shorter}
use Rattle.git_attributes.specs.Assignments.{assignment_at}
use Rattle.git_attributes.specs.Views.{given_of}
use Rattle.git_attributes.specs.Words.{skip_blanks}
use Rattle.git_attributes.proofs.Leaving.{assignment_leaves}
use Rattle.git_attributes.proofs.assignment.assignments_of.Goals as goal

pub words-smaller : goal.words-smaller
words-smaller c = shorter length assignment_at assignment_leaves c.words.rest.now (given_of c.in-Some.assignment, c.in-Some.after.now) (sym c.in-Some.ensures)

pub words-preserved : goal.words-preserved
words-preserved c =
    let whole = all length assignment_at c.args.text.now in let behind = c.in-Some.after.now in let last = c.in-Some.assignment in
    subst (λ given. after given (all length assignment_at behind) ≡ whole) (sym (ap (map given_of) c.in_ok-push.ensures.items ∙ map_push given_of c.words.given.items last))
    (read_more length assignment_at assignment_leaves whole (map given_of c.words.given.items) c.words.rest.now (given_of last, behind) c.words.invariant (sym c.in-Some.ensures))

pub returns-then-is_empty : goal.returns-then-is_empty
returns-then-is_empty c =
    let given = map given_of c.words.given.items in
    sym (ap (λ found. all_of found.0 (skip_blanks found.1)) (all_read length assignment_at assignment_leaves given c.words.rest.now c.args.text.now c.words.invariant (sym c.in_default.ensures))
    ∙ (ap (all_of given) (sym c.skip_blanks.ensures) ∙ all_of_none given c.skip_blanks.result.now (sym c.is_empty.ensures ∙ c.if-is_empty.true)))

pub returns : goal.returns
returns c =
    let given = map given_of c.words.given.items in
    sym (ap (λ found. all_of found.0 (skip_blanks found.1)) (all_read length assignment_at assignment_leaves given c.words.rest.now c.args.text.now c.words.invariant (sym c.in_default.ensures))
    ∙ (ap (all_of given) (sym c.skip_blanks.ensures) ∙ all_of_some given c.skip_blanks.result.now (sym c.is_empty.ensures ∙ c.if-is_empty.false)))
