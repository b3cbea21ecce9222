use Rattle.std.proofs.Common.{◌≡◌, map, take}
use Rattle.status_index.specs.Entries.{index_entry}
use Rattle.status_index.specs.States.{backing_of, index_of}
use Rattle.git_staged.specs.Letters.{change_view, deletions}
use Rattle.git_staged.proofs.Merges.{IsBefore}
use Rattle.git_staged.proofs.letters.deleted_files.Given as goal

-- the deletions among the files passed so far
abbrev pub invariant-loop-file : goal.invariant-loop-file
invariant-loop-file l = record {
  found : map change_view l.found.items ≡ deletions (index_of l.index) (map (index_entry (backing_of l.head)) (take l.file-index l.files));
  next : IsBefore (index_of l.index) l.next (index_of l.head) l.file-index;
}
