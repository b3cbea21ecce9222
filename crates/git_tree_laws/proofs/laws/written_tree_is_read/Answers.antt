use Rattle.git_tree_laws.proofs.Agreement.{written_is_read}
use Rattle.git_tree_laws.proofs.laws.written_tree_is_read.Goals as goal

pub returns : goal.returns
returns c = written_is_read
