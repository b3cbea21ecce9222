use Rattle.std.proofs.Common.{◌≡◌, map, take}
use Rattle.status_index.specs.Entries.{index_entry}
use Rattle.status_index.specs.States.{backing_of, index_of}
use Rattle.git_staged.specs.Letters.{change_view, changes}
use Rattle.git_staged.proofs.Merges.{IsBefore}
use Rattle.git_staged.proofs.letters.changed_entries.Given as goal

-- the changes of the entries passed so far
abbrev pub invariant-loop-entry : goal.invariant-loop-entry
invariant-loop-entry l = record {
  found : map change_view l.found.items ≡ changes (index_of l.head) (map (index_entry (backing_of l.index)) (take l.entry-index l.entries));
  next : IsBefore (index_of l.head) l.next (index_of l.index) l.entry-index;
}
