use Rattle.std.proofs.Common.{List, length}
use Rattle.status_index.specs.Entries.{IndexEntry}
use Rattle.git_staged.specs.OpenFolders.{HasNoLastFolder, Makes}
use Rattle.git_staged.proofs.builder.TreeBuilder.finish.Given as goal

-- closing folders changes no tree
abbrev pub invariant-loop-self : goal.invariant-loop-self
invariant-loop-self l = (es : List IndexEntry) → Makes l.kind es l.len l.fn.self HasNoLastFolder → Makes l.kind es l.len l.self (λ fs u. Unit {0})

abbrev pub decreases-loop-self : goal.decreases-loop-self
decreases-loop-self l = length l.self.marks.items
