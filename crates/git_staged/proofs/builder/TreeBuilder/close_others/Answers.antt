use Rattle.std.proofs.Common.{ℕ, List, ◌++◌, Some, None, sym, ap, ◌∙◌, nat_eq}
use Rattle.std.proofs.lemmas.Bool.Decides.{Decides-eqb}
use Rattle.std.proofs.lemmas.Slice.Eq.{strip_prefix_is}
use Rattle.git_staged.proofs.Stack.{some_open, closed_other, still_open}
use Rattle.git_staged.proofs.builder.TreeBuilder.close_others.Goals as goal

pub folders-init : goal.folders-init
folders-init c = λ es m. (m.0, m.1, m.2, m.3 c.args.path.now)

pub returns-in-Some : goal.returns-in-Some
returns-in-Some c = λ es m.
    let (fs, u, h, left) = c.folders.invariant es m in
    let inside = strip_prefix_is {E = nat_eq} Decides-eqb c.args.path.now c.as_slice.result.now (Some c.in-Some.rest) c.in-Some.ensures.cases in
    (fs, u, h, (left, inside ∙ ap (λ (p : List ℕ). p ++ c.in-Some.rest.now) (c.as_slice.ensures.value ∙ h.stack.path)))

pub close-requires : goal.close-requires
close-requires c =
    let (es, m) = c.requires in
    let (fs, u, h, left) = c.folders.invariant es m in
    (fs, u, h.stack)

pub folders-smaller : goal.folders-smaller
folders-smaller c =
    let (es, m) = c.requires in
    let (fs, u, h, left) = c.folders.invariant es m in
    let outside = strip_prefix_is {E = nat_eq} Decides-eqb c.args.path.now c.as_slice.result.now None c.in_default.ensures.cases in
    c.close.ensures.fewer (some_open c.args.kind c.folders.self c.args.path.now fs u h.stack (λ rest e. outside rest (e ∙ ap (λ (p : List ℕ). p ++ rest) (sym c.as_slice.ensures.value))))

pub folders-preserved : goal.folders-preserved
folders-preserved c = λ es m.
    let (fs, u, h, left) = c.folders.invariant es m in
    let outside = strip_prefix_is {E = nat_eq} Decides-eqb c.args.path.now c.as_slice.result.now None c.in_default.ensures.cases in
    closed_other c.args.kind es c.args.number c.folders.self c.close.new.self c.args.path.now fs u h (λ rest e. outside rest (e ∙ ap (λ (p : List ℕ). p ++ rest) (sym c.as_slice.ensures.value)))
    (λ f gs v o. still_open c.args.kind es c.args.number c.folders.self c.close.new.self f gs v (c.in_ok-close.ensures.closed f gs v o.stack) (c.in_ok-close.ensures.folders es f gs v o.stack o.runs o.within o.folders) o)
