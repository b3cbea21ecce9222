-- The entries of a `State`, with their paths, and its timestamp.
use Rattle.std.specs.Prelude.{◌≡◌, ℕ, List}
use Rattle.std.specs.List.{slice_index_or, slice_set}
use Rattle.status_index.specs.declared.state.State.{State}
use Rattle.status_index.specs.declared.entry.Entry.{Entry}
use Rattle.status_index.specs.declared.entry.PathStorage.{PathStorage}
use Rattle.status_index.specs.declared.stat.Moment.{Moment}
use Rattle.status_index.specs.declared.stat.Stat.{Stat}
use Rattle.status_index.specs.Entries.{IndexEntry, index_entries}

-- Entries, their paths' storage, and the timestamp of the index's writing.
-- `entries_of` has the entries as they are stored, without their paths.
abbrev pub entries_of : State → List Entry
entries_of s = s.entries.items

abbrev pub backing_of : State → PathStorage
backing_of s = s.backing

abbrev pub timestamp_of : State → Moment
timestamp_of s = s.timestamp

-- The entries with their paths.
abbrev pub index_of : State → List IndexEntry
index_of s = index_entries (backing_of s) (entries_of s)

-- One element of a list changes, for example to size 0.
-- The new list has f of the old element at the position, and is otherwise equal.
abbrev pub ChangesAt : {X : Type 0} → (X → X) → ℕ → List X → List X → Type 0
ChangesAt {X} f at old new = (d : X) → new ≡ slice_set old at (f (slice_index_or old at d))

-- An entry with this stat.
abbrev pub with_stat : Stat → IndexEntry → IndexEntry
with_stat stat e = record e { stat = stat }

-- An entry whose stat has size 0.
abbrev pub smudged : IndexEntry → IndexEntry
smudged e = record e { stat = record e.stat { size = 0 } }
