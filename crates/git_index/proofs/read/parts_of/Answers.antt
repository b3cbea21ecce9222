use Rattle.std.proofs.Common.{sym, ap, ◌∙◌, arith}
use Rattle.git_index.specs.Reading.{header_at, signature}
use Rattle.git_index.proofs.OneFile.{too_short}
use Rattle.git_index.proofs.read.parts_of.Goals as goal

pub returns-then-bytes-sum_len-clause-refused : goal.returns-then-bytes-sum_len-clause-refused
returns-then-bytes-sum_len-clause-refused c = too_short c.args.kind c.args.bytes.now (omega (arith, c.id_len_of-sum_len.ensures, c.if-bytes-sum_len.true))

pub returns-in-Ok-clause-header : goal.returns-in-Ok-clause-header
returns-in-Ok-clause-header c =
    let front = rw c.id_len_of-sum_len.ensures at c.split_at.ensures.front in
    record { signature = signature; reads = ap header_at (sym front) ∙ c.in-Ok.ensures }
