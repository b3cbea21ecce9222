-- An index of entries of a file, and why the next entry can't be in it.
use Rattle.std.specs.Prelude.{◌≡◌, ◌≢◌, ℕ, List, [], ◌∷◌, ◌++◌, length, ⊤}
use Rattle.status_index.specs.declared.state.IndexError.TheVariants as index
use Rattle.status_index.specs.Entries.{IndexEntry, IsRefusal, entry_of_fields}
use Rattle.git_index.specs.declared.fault.IndexFileError.{IndexFileError}
use Rattle.git_index.specs.declared.fault.IndexFileError.TheVariants as errors
use Rattle.git_index.specs.RawEntry.{RawEntry, short_len}
use Rattle.git_index.specs.Paths.{entries_after, last_path, AllFollow}

-- The index has these entries of a file, each of which follows the one before, and in version 4 this is the path of the last.
pub record IsViewOf (version : ℕ) (rs : List RawEntry) (es : List IndexEntry) (path : List ℕ) : Type 0 where
  pub follow : AllFollow version [] rs
  pub entries : es ≡ entries_after version [] rs
  pub last : version ≡ 4 → path ≡ last_path version [] rs

-- An entry with this path.
abbrev pub named_entry : RawEntry → List ℕ → IndexEntry
named_entry r path = entry_of_fields path r.stat r.id (record { 0 = r.flags }) r.mode

-- Why the entry at a position, with this path, can't be the next of an index.
abbrev pub IsNextRefusal : List IndexEntry → RawEntry → List ℕ → ℕ → IndexFileError → Type 0
IsNextRefusal es r path at (errors.NameLength n) = (n ≡ at) × (r.stated ≢ short_len (length path))
IsNextRefusal es r path at (errors.Index e) = (r.stated ≡ short_len (length path)) × IsRefusal (es ++ named_entry r path ∷ []) e × (e ≢ index.Memory)
IsNextRefusal es r path at errors.Memory = ⊤
IsNextRefusal es r path at _ = ⊥
