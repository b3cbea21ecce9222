use Rattle.std.proofs.Common.{◌≡◌, ◌++◌, map, take}
use Rattle.status_index.specs.declared.entry.TheConstants.Flags.{SKIP_WORKTREE}
use Rattle.status_index.specs.Entries.{index_entry}
use Rattle.status_index.specs.States.{backing_of, index_of, timestamp_of}
use Rattle.git_staged.specs.Folders.{with_flags}
use Rattle.git_staged.proofs.expand.push_skipped.Given as goal

-- the files passed so far were added
abbrev pub invariant-loop-entry : goal.invariant-loop-entry
invariant-loop-entry l = record {
  entries : index_of l.files ≡ index_of l.fn.files ++ map (with_flags SKIP_WORKTREE) (map (index_entry (backing_of l.inner)) (take l.entry-index l.entry-items));
  time : timestamp_of l.files ≡ timestamp_of l.fn.files;
}
