use Rattle.std.proofs.Common.{List, length}
use Rattle.status_index.specs.Entries.{IndexEntry}
use Rattle.git_staged.specs.OpenFolders.{IsAfterLast, HasNoLastFolder, Makes}
use Rattle.git_staged.proofs.builder.TreeBuilder.close_others.Given as goal

-- closing folders changes no tree, and the last folder that was closed doesn't contain the path
abbrev pub invariant-folders : goal.invariant-folders
invariant-folders l = (es : List IndexEntry) → Makes l.kind es l.number l.fn.self HasNoLastFolder → Makes l.kind es l.number l.self (IsAfterLast l.path)

abbrev pub decreases-folders : goal.decreases-folders
decreases-folders l = length l.self.marks.items
