-- The index that a JSON value states, or None if it has a wrong form.
use Rattle.std.specs.Prelude.{List, codes, Option, Some}
use Rattle.serde_json.specs.Data.{Data}
use Rattle.serde_json.specs.Find.{get}
use Rattle.status_index.specs.declared.stat.Moment.{Moment}
use Rattle.status_index.specs.Entries.{IndexEntry}
use Rattle.status_format.specs.Reading.{entries_in, stamp_in}
use Rattle.status_format.specs.Reads.{◌>>=◌, needed}

-- A value's index has its timestamp and entries with path and id; other fields have defaults.
-- Other keys are ignored.
unfoldable pub index_in : Data → Option (List IndexEntry × Moment)
index_in d = do
  timestamp ← needed stamp_in (get (codes "timestamp") d)
  entries ← needed entries_in (get (codes "index") d)
  Some (entries, timestamp)
