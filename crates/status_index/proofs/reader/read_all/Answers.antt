use Rattle.status_index.proofs.Gifts.{all_given_short}
use Rattle.status_index.proofs.reader.read_all.Goals as goal

pub returns-in_err-extend_from_slice-clause-seen :
    goal.returns-in_err-extend_from_slice-clause-seen
returns-in_err-extend_from_slice-clause-seen g c =
    let inv = c.chunks.invariant in
    all_given_short (g.R.ReadBytes.may_give c.args.reader.now) (g.R.ReadBytes.may_give c.chunks.reader) _ c.chunks.into.items _ inv.0 _ c.from_residual-in_err-extend_from_slice.ensures.1 inv.1
    (c.in_err-extend_from_slice.ensures).items inv.4 (g.met.R.ReadBytes.give_may_fail c.chunks.reader)
