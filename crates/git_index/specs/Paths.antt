-- The paths of a file's entries: in version 4 each begins as the one before.
use Rattle.std.specs.Prelude.{◌≡◌, ℕ, ◌-◌, ◌≤◌, ◌==◌, List, [], ◌∷◌, ◌++◌, length, take, if◌then◌else◌, ⊤}
use Rattle.status_index.specs.Entries.{IndexEntry, entry_of_fields}
use Rattle.git_index.specs.RawEntry.{RawEntry, short_len}

-- The path of an entry, after the entry with this path.
abbrev pub path_after : ℕ → List ℕ → RawEntry → List ℕ
path_after version before r = if version == 4 then take (length before - r.strip) before ++ r.name else r.name

-- The entry as an index has it.
abbrev pub entry_after : ℕ → List ℕ → RawEntry → IndexEntry
entry_after version before r = entry_of_fields (path_after version before r) r.stat r.id (record { 0 = r.flags }) r.mode

-- The entries as an index has them, after the entry with this path.
abbrev pub entries_after : ℕ → List ℕ → List RawEntry → List IndexEntry
entries_after version before [] = []
entries_after version before (r ∷ rs) = entry_after version before r ∷ entries_after version (path_after version before r) rs

-- In version 4 no more bytes are stripped than there are. The stated length is the path's.
pub record Follows (version : ℕ) (before : List ℕ) (r : RawEntry) : Type 0 where
  pub strip : version ≡ 4 → r.strip ≤ length before
  pub stated : r.stated ≡ short_len (length (path_after version before r))

-- Each entry follows the one before it.
abbrev pub AllFollow : ℕ → List ℕ → List RawEntry → Type 0
AllFollow version before [] = ⊤
AllFollow version before (r ∷ rs) = Follows version before r × AllFollow version (path_after version before r) rs

-- The path of the last entry, or this one if there is none.
abbrev pub last_path : ℕ → List ℕ → List RawEntry → List ℕ
last_path version before [] = before
last_path version before (r ∷ rs) = last_path version (path_after version before r) rs
