use Rattle.std.proofs.Common.{sym, ◌≤◌, ◌⊎◌, inl, inr, length, slice_index_or, arith}
use Rattle.std.proofs.lemmas.List.{get_or_default}
use Rattle.status_rewrites.specs.IdentityPairs.{key_cmp}
use Rattle.status_rewrites.specs.Joins.{rename_of}
use Rattle.status_rewrites.specs.SeenItems.{changed_of}
use Rattle.status_rewrites.proofs.BlankSeen.{blank}
use Rattle.status_rewrites.proofs.Joining.{skip_first, skip_second, take_both, joined_all}
use Rattle.status_rewrites.proofs.Keys.{key_total}
use Rattle.status_rewrites.proofs.seen.join.Goals as goal
use Rattle.status_rewrites.proofs.seen.join.Goals.{then-loop-source-test+else-destination-came, else-loop-source-test}

pub loop-source-preserved-in-Less : goal.loop-source-preserved-in-Less
loop-source-preserved-in-Less c =
    let gone = c.args.gone.now in let came = c.args.came.now in
    let g = c.loop-source.source in let k = c.loop-source.destination in
    let x = slice_index_or gone g blank in let y = slice_index_or came k blank in
    skip_first key_cmp key_total changed_of rename_of gone came g k c.loop-source.pairs.items x y
    c.loop-source-test.true c.if-destination-came.true (get_or_default gone g blank x c.loop-source-test.true) (get_or_default came k blank y c.if-destination-came.true)
    c.requires.gone c.requires.came c.loop-source.invariant (sym c.in-Less.ensures)

pub loop-source-preserved-in-Greater : goal.loop-source-preserved-in-Greater
loop-source-preserved-in-Greater c =
    let gone = c.args.gone.now in let came = c.args.came.now in
    let g = c.loop-source.source in let k = c.loop-source.destination in
    let x = slice_index_or gone g blank in let y = slice_index_or came k blank in
    skip_second key_cmp key_total changed_of rename_of gone came g k c.loop-source.pairs.items x y
    c.loop-source-test.true c.if-destination-came.true (get_or_default gone g blank x c.loop-source-test.true) (get_or_default came k blank y c.if-destination-came.true)
    c.requires.gone c.requires.came c.loop-source.invariant (sym c.in-Greater.ensures)

pub loop-source-preserved : goal.loop-source-preserved
loop-source-preserved c =
    let gone = c.args.gone.now in let came = c.args.came.now in
    let g = c.loop-source.source in let k = c.loop-source.destination in
    let x = slice_index_or gone g blank in let y = slice_index_or came k blank in
    let more = take_both key_cmp key_total changed_of rename_of gone came g k c.loop-source.pairs.items x y
    c.loop-source-test.true c.if-destination-came.true (get_or_default gone g blank x c.loop-source-test.true) (get_or_default came k blank y c.if-destination-came.true)
    c.requires.gone c.requires.came c.loop-source.invariant (sym c.in-Equal.ensures) in
    rw (c.in_ok-push-in-Equal.ensures.items) more

pub returns : goal.returns
returns c =
    let j = c.loop-source.invariant in
    let done : (length c.args.gone.now ≤ c.loop-source.source) ⊎ (length c.args.came.now ≤ c.loop-source.destination) =
    elim c.loop-source-test.branch [ then-loop-source-test+else-destination-came w ↦ inr (omega arith) | else-loop-source-test w ↦ inl (omega arith) ] in
    record {
      matched = j.matched;
      are = j.are;
      by_key = j.by_key;
      each = joined_all key_cmp key_total changed_of rename_of c.args.gone.now c.args.came.now c.loop-source.source c.loop-source.destination c.loop-source.pairs.items done j;
    }
