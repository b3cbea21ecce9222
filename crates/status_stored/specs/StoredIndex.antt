-- The JSON value of an index.
use Rattle.std.specs.Prelude.{List, [], ◌∷◌, map, codes}
use Rattle.serde_json.specs.Data.{Data, Members, array, object, put}
use Rattle.serde_json.specs.View.{items_of}
use Rattle.status_index.specs.declared.stat.Moment.{Moment}
use Rattle.status_index.specs.Entries.{IndexEntry}
use Rattle.status_format.specs.StoredEntry.{stored_stamp, members_with, stored_entry}

-- An object of twelve keys for each entry, in order.
abbrev pub stored_entries : List IndexEntry → Data
stored_entries es = array (items_of (map stored_entry es))

-- The timestamp, and the objects of the entries.
abbrev pub stored_index : List IndexEntry → Moment → Data
stored_index es t =
    object (members_with (
    (codes "index", stored_entries es)
    ∷ (codes "timestamp", stored_stamp t.secs t.nsecs)
    ∷ []))

-- An object's members, with these two in place of earlier ones.
abbrev pub stored_with : Members → List IndexEntry → Moment → Members
stored_with ms es t = put (codes "timestamp") (stored_stamp t.secs t.nsecs) (put (codes "index") (stored_entries es) ms)
