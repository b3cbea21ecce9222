-- A collector gets the whole index, an entry's position, path and status.
use Rattle.std.specs.Prelude.{◌≡◌, ℕ, List, slice_get, Some}
use Rattle.status_index.specs.declared.entry.Entry.{Entry}
use Rattle.status_index.specs.declared.entry.PathStorage.{PathStorage}
use Rattle.status_index.specs.Entries.{path_in}
use Rattle.status_call.specs.declared.index_as_worktree.types.EntryStatus.{EntryStatus}
use Rattle.status_call.specs.declared.index_as_worktree.types.Finding.{Finding}

-- The list of entries that is passed, an entry with its position in it, its path, and its status.
pub record Visit (T U : Type 0) : Type 0 where
  pub entries : List Entry
  pub entry : Entry
  pub entry_index : ℕ
  pub path : List ℕ
  pub status : EntryStatus T U

abbrev pub visit : {T U : Type 0} → List Entry → Entry → ℕ → List ℕ → EntryStatus T U → Visit T U
visit entries entry entry_index path status =
    record {
      entries = entries;
      entry = entry;
      entry_index = entry_index;
      path = path;
      status = status;
    }

-- The finding of a record: the entry's position, and its status.
abbrev pub finding_of : {T U : Type 0} → Visit T U → Finding T U
finding_of v = record { entry_index = v.entry_index; status = v.status }

-- The list is the whole index, the entry is the index's at that position, and the path is its own.
pub record IsFaithful {T U : Type 0} (entries : List Entry) (backing : PathStorage)
    (v : Visit T U) : Type 0 where
  pub whole : v.entries ≡ entries
  pub entry : slice_get entries v.entry_index ≡ Some v.entry
  pub path : v.path ≡ path_in backing v.entry
