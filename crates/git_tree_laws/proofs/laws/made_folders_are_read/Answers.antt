use Rattle.git_tree_laws.proofs.Agreement.{head_is_read}
use Rattle.git_tree_laws.proofs.laws.made_folders_are_read.Goals as goal

pub returns : goal.returns
returns c = head_is_read
