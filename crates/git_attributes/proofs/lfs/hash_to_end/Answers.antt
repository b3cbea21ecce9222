use Rattle.std.proofs.Common.{◌≡◌, ◌+◌, ◌++◌, length, take, arith}
use Rattle.std.proofs.lemmas.List.{length-append, length-take-le}
use Rattle.git_attributes.proofs.FirstBytes.{first_more, follows_more, stands_more}
use Rattle.git_attributes.proofs.lfs.hash_to_end.Goals as goal

pub chunks-preserved : goal.chunks-preserved
chunks-preserved g c =
    let inv = c.chunks.invariant in let done = inv.0 in let taken = c.in_ok-taken.taken in let buffer = c.read_bytes.new.buffer in
    let part = take taken buffer in
    let fits : length part ≡ taken = length-take-le taken buffer c.in_ok-taken.ensures.fits in
    let both : length (done ++ part) ≡ length done + length part = length-append done part in (
      done ++ part,
      c.update.ensures done inv.1,
      omega (arith, fits, both, inv.2, c.in-Some.ensures),
      first_more c.chunks.front.items c.push_front.new.front.items done part inv.3 c.in_ok-push_front.ensures,
      stands_more (g.R.ReadBytes.left c.args.reader.now) (g.R.ReadBytes.left c.chunks.reader) (g.R.ReadBytes.left c.read_bytes.new.self) done buffer taken inv.4 c.in_ok-taken.ensures.bytes,
      follows_more (g.R.ReadBytes.may_give c.args.reader.now) (g.R.ReadBytes.may_give c.chunks.reader) (g.R.ReadBytes.may_give c.read_bytes.new.self) done part inv.5 c.in_ok-taken.ensures.seen.0,
    )
