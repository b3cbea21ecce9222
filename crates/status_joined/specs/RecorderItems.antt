-- The reports that a recorder took.
use Rattle.std.specs.Prelude.{List, map}
use Rattle.status_joined.specs.declared.index_as_worktree_with_renames.recorder.Recorder.{Recorder}
use Rattle.status_joined.specs.Items.{Reported}
use Rattle.status_joined.specs.Entries.{reported_entry}

-- A record, a node, or a rewrite with source, destination, its id, and whether it is a copy. These are those in a recorder.
abbrev pub reported_of_recorder : {T U : Type 0} → Recorder T U → List (Reported T U)
reported_of_recorder r = map reported_entry r.records.items
