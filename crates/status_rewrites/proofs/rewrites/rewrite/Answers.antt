use Rattle.std.proofs.Common.{◌≡◌, sym, ap, ◌∙◌, true, false, slice_index_or}
use Rattle.std.proofs.lemmas.List.{get_or_default}
use Rattle.status_rewrites.specs.Places.{fits}
use Rattle.status_rewrites.proofs.Afterwards.{all_rewritten}
use Rattle.status_rewrites.proofs.BlankPair.{blank}
use Rattle.status_rewrites.proofs.Breaking.{bad_pair}
use Rattle.status_rewrites.proofs.Pairing.{paired_none, paired_step}
use Rattle.status_rewrites.proofs.rewrites.rewrite.Goals as goal

pub loop-at-init : goal.loop-at-init
loop-at-init g c =
    let i = g.I.Item in
    paired_none i.is_removed i.is_walked i.is_copy c.args.items.items c.in_ok-places.places.items c.in_ok-places.ensures

pub returns-then-not-fits : goal.returns-then-not-fits
returns-then-not-fits g c =
    let i = g.I.Item in
    let p = slice_index_or c.args.pairs.now c.loop-at.at blank in
    let unfit : fits i.is_removed i.is_walked c.loop-at.places.items p ≡ false =
    ap (λ v. fits i.is_removed i.is_walked v p) (sym c.deref.ensures.value) ∙ sym c.fits.ensures ∙ c.if-not-fits.true in
    bad_pair i.is_removed i.is_walked g.met.I.Item.apart i.is_copy c.args.items.items c.args.pairs.now c.loop-at.at c.loop-at.places.items p
    c.loop-at-test.true (get_or_default c.args.pairs.now c.loop-at.at blank p c.loop-at-test.true) c.loop-at.invariant unfit

pub loop-at-preserved : goal.loop-at-preserved
loop-at-preserved g c =
    let i = g.I.Item in
    let p = slice_index_or c.args.pairs.now c.loop-at.at blank in
    let fit : fits i.is_removed i.is_walked c.loop-at.places.items p ≡ true =
    ap (λ v. fits i.is_removed i.is_walked v p) (sym c.deref.ensures.value) ∙ sym c.fits.ensures ∙ c.if-not-fits.false in
    paired_step i.is_removed i.is_walked i.is_copy c.args.items.items c.args.pairs.now c.loop-at.at c.loop-at.places.items c.pair_up.new.places.items p
    c.loop-at-test.true (get_or_default c.args.pairs.now c.loop-at.at blank p c.loop-at-test.true) c.loop-at.invariant fit c.in_ok-pair_up.ensures

pub returns : goal.returns
returns g c =
    let i = g.I.Item in
    all_rewritten i.is_removed i.is_walked i.is_copy c.args.items.items c.args.pairs.now c.loop-at.at c.loop-at.places.items c.in_ok-entries_of.field-0.items
    c.loop-at-test.false c.loop-at.invariant c.in_ok-entries_of.ensures
