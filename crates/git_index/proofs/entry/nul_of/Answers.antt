use Rattle.git_index.proofs.FirstZero.{first_zero}
use Rattle.git_index.proofs.entry.nul_of.Goals as goal

pub returns : goal.returns
returns c = first_zero c.args.bytes.now c.memchr.result c.memchr.ensures
