use Rattle.std.proofs.Common.{◌≡◌, [], ◌++◌, length, take, map}
use Rattle.std.specs.List.{flat_map}
use Rattle.status_index.specs.Entries.{index_entry}
use Rattle.status_index.specs.States.{backing_of}
use Rattle.git_index.specs.RawEntry.{raw_bytes}
use Rattle.git_index.specs.File.{header_bytes}
use Rattle.git_index.proofs.Written.{last_path_of}
use Rattle.git_index.specs.Writing.{raw_entries}
use Rattle.git_index.proofs.write.write_index.Given as goal

-- the entries passed so far are written, and this is the last one's path
abbrev pub invariant-loop-entry : goal.invariant-loop-entry
invariant-loop-entry l =
    (l.out.items ≡ header_bytes l.version (length l.entries) ++ flat_map (raw_bytes l.kind l.version) (raw_entries l.version [] (map (index_entry (backing_of l.state)) (take l.entry-index l.entries))))
    × (l.last ≡ last_path_of [] (map (index_entry (backing_of l.state)) (take l.entry-index l.entries)))
