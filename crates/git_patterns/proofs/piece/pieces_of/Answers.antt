use Rattle.std.proofs.Common.{◌≡◌, ◌∙◌, [], ◌∷◌, ◌++◌, length, map, subst, sym, ap, true, take, drop, List, Bool, ℕ}
use Rattle.std.proofs.lemmas.List.{map_push}
use Rattle.std.specs.Option.{option_map}
use Rattle.git_patterns.specs.Items.{all_of}
use Rattle.git_patterns.specs.Patterns.{begins_name, literal_len, part_at, part_step}
use Rattle.git_patterns.specs.Views.{part_of}
use Rattle.git_patterns.specs.Wildmatch.{One, Part}
use Rattle.git_patterns.proofs.Items.{after, all, all_of_none, all_of_some, read_end, read_more, shorter}
use Rattle.git_patterns.proofs.Leaving.{lens, part_leaves, part_step_leaves}
use Rattle.git_patterns.proofs.piece.pieces_of.Goals as goal

abbrev whole_of : List ℕ → List Part × (Bool × List ℕ)
whole_of pattern = after (map One (take (literal_len pattern) pattern)) (all lens part_step (true, drop (literal_len pattern) pattern))

pub pieces-smaller : goal.pieces-smaller
pieces-smaller c = shorter length (part_at c.pieces.at_name) (part_leaves c.pieces.at_name) c.pieces.rest.now (part_of c.in-Some.piece, c.in-Some.after.now) (sym (rw c.in-Some.is at c.in_ok-piece.ensures))

pub pieces-preserved : goal.pieces-preserved
pieces-preserved c =
    let whole = whole_of c.args.pattern.now in let part = part_of c.in-Some.piece in let behind = c.in-Some.after.now in
    let more = read_more lens part_step part_step_leaves whole (map part_of c.pieces.pieces.items) (c.pieces.at_name, c.pieces.rest.now) (part, (begins_name part, behind)) c.pieces.invariant
    (ap (option_map (λ x. (x.0, (begins_name x.0, x.1)))) (sym (rw c.in-Some.is at c.in_ok-piece.ensures))) in
    subst (λ parts. after parts (all lens part_step (c.begins_name-at_name.result, behind)) ≡ whole) (sym (ap (map part_of) c.in_ok-push.ensures.items ∙ map_push part_of c.pieces.pieces.items c.in-Some.piece))
    (subst (λ (b : Bool). after (map part_of c.pieces.pieces.items ++ part ∷ []) (all lens part_step (b, behind)) ≡ whole) (sym c.begins_name-at_name.ensures) more)

pub returns-else-is_empty : goal.returns-else-is_empty
returns-else-is_empty c =
    let whole = whole_of c.args.pattern.now in let parts = map part_of c.pieces.pieces.items in
    sym (ap (λ (w : List Part × (Bool × List ℕ)). all_of w.0 w.1.1) (sym (read_end lens part_step part_step_leaves whole parts (c.pieces.at_name, c.pieces.rest.now) c.pieces.invariant
    (ap (option_map (λ x. (x.0, (begins_name x.0, x.1)))) (sym (rw c.in_default.is at c.in_ok-piece.ensures)))))
    ∙ all_of_some parts c.pieces.rest.now (sym c.is_empty.ensures ∙ c.if-is_empty.false))

pub returns-then-is_empty : goal.returns-then-is_empty
returns-then-is_empty c =
    let whole = whole_of c.args.pattern.now in let parts = map part_of c.pieces.pieces.items in
    sym (ap (λ (w : List Part × (Bool × List ℕ)). all_of w.0 w.1.1) (sym (read_end lens part_step part_step_leaves whole parts (c.pieces.at_name, c.pieces.rest.now) c.pieces.invariant
    (ap (option_map (λ x. (x.0, (begins_name x.0, x.1)))) (sym (rw c.in_default.is at c.in_ok-piece.ensures)))))
    ∙ all_of_none parts c.pieces.rest.now (sym c.is_empty.ensures ∙ c.if-is_empty.true))
