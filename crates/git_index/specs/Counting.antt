-- What reading so many entries returns.
use Rattle.std.specs.Prelude.{◌≡◌, ◌≢◌, ◌⊎◌, ℕ, ◌+◌, ◌<◌, List, [], length, take, Option, Some, None, ⊤}
use Rattle.status_index.specs.declared.id.HashKind.{HashKind}
use Rattle.status_index.specs.Entries.{IndexEntry}
use Rattle.git_index.specs.declared.fault.Fault.{Fault}
use Rattle.git_index.specs.declared.fault.Fault.TheVariants.{Required}
use Rattle.git_index.specs.declared.fault.IndexFileError.{IndexFileError}
use Rattle.git_index.specs.declared.fault.IndexFileError.TheVariants as errors
use Rattle.git_index.specs.RawEntry.{RawEntry}
use Rattle.git_index.specs.Paths.{entries_after, AllFollow}
use Rattle.git_index.specs.Refusals.{Spells, NoEntryAt, IsEntriesRefusal}
use Rattle.git_index.specs.Views.{IsViewOf}

-- The index has all entries, or this is why it can't.
abbrev pub IsIndexOrRefused : ℕ → List RawEntry → List IndexEntry → Option IndexFileError → Type 0
IsIndexOrRefused version rs es None = AllFollow version [] rs × (es ≡ entries_after version [] rs)
IsIndexOrRefused version rs es (Some e) = IsEntriesRefusal version rs e

-- The index has the entries so far, of which this is the last path in version 4, or this is why it can't.
abbrev pub IsIndexSoFar : ℕ → List RawEntry → List IndexEntry → List ℕ → Option IndexFileError → Type 0
IsIndexSoFar version rs es path None = IsViewOf version rs es path
IsIndexSoFar version rs es path (Some e) = IsEntriesRefusal version rs e

-- The bytes begin with so many entries.
pub record AreEntries (kind : HashKind) (version count : ℕ) (bytes : List ℕ) (es : List IndexEntry) (refused : Option IndexFileError) (rest : List ℕ) : Type 0 where
  pub raw : List RawEntry
  pub spells : Spells kind version count bytes raw rest
  pub index : IsIndexOrRefused version raw es refused

-- The bytes don't begin with so many entries, or memory ran out.
abbrev pub IsEntriesError : HashKind → ℕ → ℕ → List ℕ → IndexFileError → Type 0
IsEntriesError kind version count bytes (errors.Entry at fault) = (at < count) × NoEntryAt kind version bytes at fault
IsEntriesError kind version count bytes errors.Memory = ⊤
IsEntriesError kind version count bytes _ = ⊥

-- The error of a content in which an extension isn't read: it is cut off, or has to be known.
abbrev pub IsExtensionError : List ℕ → List ℕ → Fault → IndexFileError → Type 0
IsExtensionError content rest fault (errors.Required name) = (fault ≡ Required) × (name ≡ take 4 rest)
IsExtensionError content rest fault (errors.Extension at) = (fault ≢ Required ⊎ (length rest < 4)) × (at + length rest ≡ length content)
IsExtensionError content rest fault _ = ⊥
