-- The entry that was read of an object.
use Rattle.status_index.specs.Entries.{IndexEntry, entry_of_fields}
use Rattle.status_format.specs.declared.entry.EntryFields.{EntryFields}

-- The entry of these fields.
abbrev pub entry_of : EntryFields → IndexEntry
entry_of e = entry_of_fields e.path.now e.stat e.id e.flags e.mode
