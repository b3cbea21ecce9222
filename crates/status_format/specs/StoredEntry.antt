-- The JSON object of an entry.
use Rattle.std.specs.Prelude.{ℕ, List, [], ◌∷◌, map, codes}
use Rattle.serde_json.specs.Data.{Data, unsigned, number, string, array, object, no_items, item, Members, no_members, member}
use Rattle.serde_json.specs.View.{items_of}
use Rattle.status_index.specs.declared.stat.Time.{Time}
use Rattle.status_index.specs.Entries.{IndexEntry, stage_of}
use Rattle.status_format.specs.Words.{mode_digits, flag_words, id_digits}

abbrev pub stored_number : ℕ → Data
stored_number n = number (unsigned n)

-- A list of seconds and nanoseconds.
abbrev pub stored_stamp : ℕ → ℕ → Data
stored_stamp secs nsecs = array (item (stored_number secs) (item (stored_number nsecs) no_items))

abbrev pub stored_time : Time → Data
stored_time time = stored_stamp time.secs time.nsecs

-- The words of the flags that are set.
abbrev pub stored_flags : ℕ → Data
stored_flags bits = array (items_of (map string (flag_words bits)))

-- The members with these keys and values.
abbrev pub members_with : List (List ℕ × Data) → Members
members_with [] = no_members
members_with (row ∷ rows) = member row.0 row.1 (members_with rows)

-- The object of an entry: all twelve keys, also those with default values.
abbrev pub stored_entry : IndexEntry → Data
stored_entry e =
    object (members_with (
    (codes "ctime", stored_time e.stat.ctime)
    ∷ (codes "dev", stored_number e.stat.dev)
    ∷ (codes "flags", stored_flags e.flags.0)
    ∷ (codes "gid", stored_number e.stat.gid)
    ∷ (codes "id", string (id_digits e.id))
    ∷ (codes "ino", stored_number e.stat.ino)
    ∷ (codes "mode", string (mode_digits e.mode))
    ∷ (codes "mtime", stored_time e.stat.mtime)
    ∷ (codes "path", string e.path)
    ∷ (codes "size", stored_number e.stat.size)
    ∷ (codes "stage", stored_number (stage_of e))
    ∷ (codes "uid", stored_number e.stat.uid)
    ∷ []))
