-- The changes that a tracker gets for the list's items.
use Rattle.std.specs.Prelude.{Bool, true, false, Option, Some, None}
use Rattle.status_index.specs.declared.mode.EntryKind.{EntryKind}
use Rattle.status_index.specs.declared.mode.EntryKind.TheVariants.{Tree, Blob, BlobExecutable, Link, Commit}
use Rattle.status_index.specs.declared.mode.Mode.{Mode}
use Rattle.status_index.specs.declared.mode.Mode.TheVariants as modes
use Rattle.status_rewrites.specs.TrackedChanges.{Changed}
use Rattle.status_rewrites.specs.declared.tracker.ChangeKind.{ChangeKind}
use Rattle.status_rewrites.specs.declared.tracker.ChangeKind.TheVariants.{Deletion, Modification, Addition}
use Rattle.status_walk.specs.declared.walk.Kind.{Kind}
use Rattle.status_walk.specs.declared.walk.Kind.TheVariants.{Untrackable, File, Symlink, Directory, Repository}
use Rattle.status_joined.specs.Items.{Item, tracked, walked, is_removal}

-- The kind of a record's change: by whether its path is removed.
abbrev pub record_kind : Bool → ChangeKind
record_kind true = Deletion
record_kind false = Modification

-- The type of the node at a record's path, by the index's mode.
abbrev pub mode_kind : Mode → EntryKind
mode_kind modes.Dir = Tree
mode_kind modes.File = Blob
mode_kind modes.FileExecutable = BlobExecutable
mode_kind modes.Symlink = Link
mode_kind modes.Commit = Commit

-- The type of the node at a node's path. If it isn't known, it is taken for a file.
abbrev pub disk_entry_kind : Option Kind → EntryKind
disk_entry_kind (Some File) = Blob
disk_entry_kind (Some Symlink) = Link
disk_entry_kind (Some Directory) = Tree
disk_entry_kind (Some Repository) = Tree
disk_entry_kind (Some Untrackable) = Tree
disk_entry_kind None = Blob

-- A removed record is a deletion, another a modification, and a node an addition, of a file if its type isn't known.
abbrev pub changed_of : {T U : Type 0} → Item T U → Changed
changed_of (tracked v) =
    record { id = v.entry.id; kind = record_kind (is_removal v.status); mode = mode_kind v.entry.mode; path = v.path }
changed_of (walked w id) =
    record { id = id; kind = Addition; mode = disk_entry_kind w.disk_kind; path = w.path }
