use Rattle.std.proofs.Common.{◌≡◌, ◌++◌, map, take}
use Rattle.status_index.specs.Entries.{index_entry}
use Rattle.status_index.specs.States.{index_of}
use Rattle.git_staged.specs.Folders.{copies}
use Rattle.git_staged.proofs.known.add_copies.Given as goal

-- the files of the entries passed so far were added
abbrev pub invariant-loop-entry : goal.invariant-loop-entry
invariant-loop-entry l = index_of l.files ≡ index_of l.fn.files ++ copies l.plain (map (index_entry l.backing) (take l.entry-index l.entries))
