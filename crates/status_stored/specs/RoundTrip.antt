-- An index after it was stored, written as text, parsed and loaded.
use Rattle.std.specs.Prelude.{◌≡◌, List, map, Result, Ok, Err, ⊤}
use Rattle.serde_json.specs.Data.{Data}
use Rattle.serde_json.specs.View.{view}
use Rattle.serde_json.specs.declared.value.Value.{Value}
use Rattle.status_index.specs.declared.stat.Moment.{Moment}
use Rattle.status_index.specs.declared.state.State.{State}
use Rattle.status_index.specs.Entries.{IndexEntry}
use Rattle.status_index.specs.States.{index_of, timestamp_of}
use Rattle.status_stored.specs.declared.error.ReopenError.{ReopenError}
use Rattle.status_stored.specs.declared.error.ReopenError.TheVariants.{NotUtf8, Unreadable, Memory}
use Rattle.status_format.specs.Storable.{known_entry}
use Rattle.status_stored.specs.Storable.{IsNotUtf8At, IsStorableIndex}

-- An index has these entries and this timestamp.
abbrev pub IsStateOf : List IndexEntry → Moment → State → Type 0
IsStateOf es t s = (index_of s ≡ es) × (timestamp_of s ≡ t)

-- The index read back is the same, except for bits that name no stage or flag.
-- The error is the first path that isn't UTF-8, or out of memory. A written text is never unreadable.
abbrev pub IsRoundTrip : List IndexEntry → Moment → Result State ReopenError → Type 0
IsRoundTrip es t (Ok s) = IsStorableIndex es t × IsStateOf (map known_entry es) t s
IsRoundTrip es t (Err (NotUtf8 at)) = IsNotUtf8At es at
IsRoundTrip es t (Err Unreadable) = ⊥
IsRoundTrip es t (Err Memory) = ⊤

-- A value that was written and parsed is the same.
abbrev pub IsReadAgain : Data → Result Value ReopenError → Type 0
IsReadAgain d (Ok value) = view value ≡ d
IsReadAgain d (Err (NotUtf8 at)) = ⊥
IsReadAgain d (Err Unreadable) = ⊥
IsReadAgain d (Err Memory) = ⊤
