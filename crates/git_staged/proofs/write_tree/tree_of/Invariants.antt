use Rattle.status_index.specs.States.{index_of}
use Rattle.git_staged.specs.OpenFolders.{HasNoLastFolder, Makes}
use Rattle.git_staged.proofs.write_tree.tree_of.Given as goal

-- the entries passed so far are in the tree
abbrev pub invariant-loop-number : goal.invariant-loop-number
invariant-loop-number l = Makes l.kind (index_of l.index) l.number l.tree HasNoLastFolder
