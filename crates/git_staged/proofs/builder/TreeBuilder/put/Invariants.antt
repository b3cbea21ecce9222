use Rattle.std.proofs.Common.{List, length}
use Rattle.status_index.specs.Entries.{IndexEntry}
use Rattle.git_staged.specs.OpenFolders.{HasNoLastFolder, IsStaged, Makes}
use Rattle.git_staged.proofs.Stack.{PutsRest}
use Rattle.git_staged.proofs.builder.TreeBuilder.put.Given as goal

-- the folders passed so far are open, and the rest is to be put into the innermost one
abbrev pub invariant-components : goal.invariant-components
invariant-components l = (es : List IndexEntry) → Makes l.fn.kind es l.number l.fn.self HasNoLastFolder → IsStaged es l.number l.path l.mode l.id
    → PutsRest l.fn.kind es l.number l.self l.path l.rest l.mode l.id

abbrev pub decreases-components : goal.decreases-components
decreases-components l = length l.rest
