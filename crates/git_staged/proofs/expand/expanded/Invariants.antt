use Rattle.std.proofs.Common.{◌≡◌, map, take}
use Rattle.status_index.specs.Entries.{index_entry}
use Rattle.status_index.specs.States.{backing_of, index_of, timestamp_of}
use Rattle.git_staged.specs.Expanded.{IsExpanded}
use Rattle.git_staged.proofs.expand.expanded.Given as goal

-- the entries passed so far were added, or the files of their folders
abbrev pub invariant-loop-entry : goal.invariant-loop-entry
invariant-loop-entry g l = record {
  entries : IsExpanded (map (index_entry (backing_of l.index)) (take l.entry-index l.entry-items)) (index_of l.files);
  time : timestamp_of l.files ≡ timestamp_of l.index;
}
