use Rattle.std.proofs.Common.{◌≡◌, ◌∙◌, ◌&&◌, [], ◌∷◌, ◌++◌, length, map, subst, sym, ap, List, Bool, ℕ}
use Rattle.std.proofs.lemmas.List.{map_push}
use Rattle.std.specs.Option.{option_map}
use Rattle.git_patterns.specs.Items.{all_of}
use Rattle.git_patterns.specs.Patterns.{begins_name, part_at}
use Rattle.git_patterns.specs.Styles.{styled, styled_step}
use Rattle.git_patterns.specs.Views.{part_of}
use Rattle.git_patterns.specs.Wildmatch.{Part}
use Rattle.git_patterns.specs.declared.wildcards.Style.{Style}
use Rattle.git_patterns.proofs.Items.{after, all, all_of_none, all_of_some, read_end, read_more, shorter}
use Rattle.git_patterns.proofs.Leaving.{lens, part_leaves, styled_step_leaves}
use Rattle.git_patterns.proofs.wildcards.Wildcards.of.Goals as goal

abbrev stepped : Style → Part × List ℕ → Part × (Bool × List ℕ)
stepped style x = (styled style x.0, (style.parts_names && begins_name x.0, x.1))

abbrev whole_of : Style → List ℕ → List Part × (Bool × List ℕ)
whole_of style text = all lens (styled_step style) (style.parts_names, text)

pub pieces-smaller : goal.pieces-smaller
pieces-smaller c = shorter length (part_at c.pieces.at_name) (part_leaves c.pieces.at_name) c.pieces.rest.now (part_of c.in-Some.piece, c.in-Some.after.now) (sym (rw c.in-Some.is at c.in_ok-piece.ensures))

pub pieces-preserved : goal.pieces-preserved
pieces-preserved c =
    let style = c.args.style in let whole = whole_of style c.args.text.now in let part = part_of c.in-Some.piece in let behind = c.in-Some.after.now in
    let more = read_more lens (styled_step style) (styled_step_leaves style) whole (map part_of c.pieces.pieces.items) (c.pieces.at_name, c.pieces.rest.now) (stepped style (part, behind)) c.pieces.invariant
    (ap (option_map (stepped style)) (sym (rw c.in-Some.is at c.in_ok-piece.ensures))) in
    subst (λ parts. after parts (all lens (styled_step style) (c.is_before_name-at_name.result, behind)) ≡ whole)
    (sym (ap (map part_of) c.in_ok-push.ensures.items ∙ (map_push part_of c.pieces.pieces.items c.in_ok-styled.field-0 ∙ ap (λ p. map part_of c.pieces.pieces.items ++ p ∷ []) c.in_ok-styled.ensures)))
    (subst (λ (b : Bool). after (map part_of c.pieces.pieces.items ++ styled style part ∷ []) (all lens (styled_step style) (b, behind)) ≡ whole) (sym c.is_before_name-at_name.ensures) more)

pub returns-else-is_empty : goal.returns-else-is_empty
returns-else-is_empty c =
    let style = c.args.style in let whole = whole_of style c.args.text.now in let parts = map part_of c.pieces.pieces.items in
    sym (ap (λ (w : List Part × (Bool × List ℕ)). all_of w.0 w.1.1) (sym (read_end lens (styled_step style) (styled_step_leaves style) whole parts (c.pieces.at_name, c.pieces.rest.now) c.pieces.invariant
    (ap (option_map (stepped style)) (sym (rw c.in_default.is at c.in_ok-piece.ensures)))))
    ∙ all_of_some parts c.pieces.rest.now (sym c.is_empty.ensures ∙ c.if-is_empty.false))

pub returns-then-is_empty : goal.returns-then-is_empty
returns-then-is_empty c =
    let style = c.args.style in let whole = whole_of style c.args.text.now in let parts = map part_of c.pieces.pieces.items in
    sym (ap (λ (w : List Part × (Bool × List ℕ)). all_of w.0 w.1.1) (sym (read_end lens (styled_step style) (styled_step_leaves style) whole parts (c.pieces.at_name, c.pieces.rest.now) c.pieces.invariant
    (ap (option_map (stepped style)) (sym (rw c.in_default.is at c.in_ok-piece.ensures)))))
    ∙ all_of_none parts c.pieces.rest.now (sym c.is_empty.ensures ∙ c.if-is_empty.true))
