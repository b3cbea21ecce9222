-- Why bytes aren't an index file. Faults are found in this order: the header, the checksum, the bytes of each entry, the
-- extensions, and then each entry with its path.
use Rattle.std.specs.Prelude.{◌≡◌, ◌≢◌, ℕ, ◌+◌, ◌-◌, ◌<◌, ◌≤◌, List, [], ◌∷◌, ◌++◌, length, take, drop, Ok, Err, ⊤}
use Rattle.std.specs.List.{flat_map, AllByRecursion}
use Rattle.status_index.specs.declared.id.HashKind.{HashKind}
use Rattle.status_index.specs.declared.state.IndexError.{IndexError}
use Rattle.status_index.specs.declared.state.IndexError.TheVariants as index
use Rattle.status_index.specs.Entries.{IsIndex, IsRefusal}
use Rattle.git_index.specs.declared.fault.Fault.{Fault}
use Rattle.git_index.specs.declared.fault.Fault.TheVariants as faults
use Rattle.git_index.specs.declared.fault.IndexFileError.{IndexFileError}
use Rattle.git_index.specs.declared.fault.IndexFileError.TheVariants as errors
use Rattle.git_index.specs.RawEntry.{RawEntry, RawFits, id_len, raw_bytes, short_len}
use Rattle.git_index.specs.Reading.{header_at, raw_at, extension_at}
use Rattle.git_index.specs.File.{AreExtensions, IsChecksum, IsContent}
use Rattle.git_index.specs.Paths.{entries_after, path_after, last_path, AllFollow}

-- The error that represents an error of an index.
abbrev pub of_index : IndexError → IndexFileError
of_index (index.EmptyPath at) = errors.Index (index.EmptyPath at)
of_index (index.NotAscending at) = errors.Index (index.NotAscending at)
of_index (index.MixedHash at) = errors.Index (index.MixedHash at)
of_index index.Memory = errors.Memory

-- The bytes begin with so many entries, and the rest follows.
pub record Spells (kind : HashKind) (version count : ℕ) (bytes : List ℕ) (rs : List RawEntry) (rest : List ℕ) : Type 0 where
  pub many : length rs ≡ count
  pub fit : AllByRecursion (RawFits kind version) rs
  pub parts : bytes ≡ flat_map (raw_bytes kind version) rs ++ rest

-- After so many entries no entry follows, for this fault.
pub record NoEntryAt (kind : HashKind) (version : ℕ) (bytes : List ℕ) (at : ℕ) (fault : Fault) : Type 0 where
  pub before : List RawEntry
  pub rest : List ℕ
  pub spells : Spells kind version at bytes before rest
  pub refused : raw_at kind version rest ≡ Err fault

-- After some optional extensions these bytes are left, which don't begin with another one, for this fault.
pub record NoExtensionAt (bytes rest : List ℕ) (fault : Fault) : Type 0 where
  pub before : List ℕ
  pub extensions : AreExtensions before
  pub parts : bytes ≡ before ++ rest
  pub more : rest ≢ []
  pub refused : extension_at rest ≡ Err fault

-- The content and the checksum of a file.
abbrev pub content_of : HashKind → List ℕ → List ℕ
content_of kind bytes = take (length bytes - id_len kind) bytes

abbrev pub sum_of : HashKind → List ℕ → List ℕ
sum_of kind bytes = drop (length bytes - id_len kind) bytes

-- The file ends with the checksum of its content, or with zeros in place of one.
abbrev pub EndsWithChecksum : HashKind → List ℕ → Type 0
EndsWithChecksum kind bytes = IsChecksum kind (content_of kind bytes) (sum_of kind bytes)

-- The header of a content, and the bytes after it.
pub record HasHeader (content : List ℕ) (version count : ℕ) (rest : List ℕ) : Type 0 where
  pub signature : ℕ
  pub reads : header_at content ≡ Ok ((signature, (version, count)), rest)

-- An entry that isn't read, after a header.
pub record NoEntries (kind : HashKind) (content : List ℕ) (at : ℕ) (fault : Fault) : Type 0 where
  pub version : ℕ
  pub count : ℕ
  pub rest : List ℕ
  pub header : HasHeader content version count rest
  pub within : at < count
  pub none : NoEntryAt kind version rest at fault

-- A header and all its entries, and the bytes after them.
pub record HasEntries (kind : HashKind) (content after : List ℕ) : Type 0 where
  pub version : ℕ
  pub count : ℕ
  pub rest : List ℕ
  pub entries : List RawEntry
  pub header : HasHeader content version count rest
  pub spells : Spells kind version count rest entries after

-- The first entries are a valid index, and each follows the one before.
pub record AreValid (version : ℕ) (rs : List RawEntry) : Type 0 where
  pub follow : AllFollow version [] rs
  pub valid : IsIndex (entries_after version [] rs)

-- After some valid entries this one comes.
pub record ComesAt (version : ℕ) (rs : List RawEntry) (at : ℕ) (r : RawEntry) : Type 0 where
  pub before : List RawEntry
  pub after : List RawEntry
  pub many : length before ≡ at
  pub parts : rs ≡ before ++ r ∷ after
  pub valid : AreValid version before

-- The entry at a position strips more bytes than the path before it has, after valid entries.
pub record StripsTooMuch (version : ℕ) (rs : List RawEntry) (at : ℕ) : Type 0 where
  pub entry : RawEntry
  pub comes : ComesAt version rs at entry
  pub too_much : length (last_path version [] comes.before) < entry.strip

-- The entry at a position states a length that isn't its path's, after valid entries.
pub record StatesOtherLength (version : ℕ) (rs : List RawEntry) (at : ℕ) : Type 0 where
  pub entry : RawEntry
  pub comes : ComesAt version rs at entry
  pub strip : version ≡ 4 → entry.strip ≤ length (last_path version [] comes.before)
  pub other : entry.stated ≢ short_len (length (path_after version (last_path version [] comes.before) entry))

-- The first entries, each of which follows the one before, aren't a valid index.
pub record NoIndex (version : ℕ) (rs : List RawEntry) (e : IndexError) : Type 0 where
  pub first : List RawEntry
  pub after : List RawEntry
  pub parts : rs ≡ first ++ after
  pub follow : AllFollow version [] first
  pub refusal : IsRefusal (entries_after version [] first) e
  pub not_memory : e ≢ index.Memory

-- Why entries whose bytes are read aren't an index.
abbrev pub IsEntriesRefusal : ℕ → List RawEntry → IndexFileError → Type 0
IsEntriesRefusal version rs (errors.Strip at) = StripsTooMuch version rs at
IsEntriesRefusal version rs (errors.NameLength at) = StatesOtherLength version rs at
IsEntriesRefusal version rs (errors.Index e) = NoIndex version rs e
IsEntriesRefusal version rs errors.Memory = ⊤
IsEntriesRefusal version rs _ = ⊥

-- The content is that of a file, except that its entries aren't an index.
pub record NoIndexIn (kind : HashKind) (content : List ℕ) (e : IndexFileError) : Type 0 where
  pub version : ℕ
  pub raw : List RawEntry
  pub extensions : List ℕ
  pub parts : IsContent kind version raw extensions content
  pub refusal : IsEntriesRefusal version raw e

-- After the entries an extension isn't whole: it begins at this offset, counted from the file's beginning.
pub record IsCutExtension (kind : HashKind) (content : List ℕ) (at : ℕ) : Type 0 where
  pub after : List ℕ
  pub rest : List ℕ
  pub entries : HasEntries kind content after
  pub refusal : NoExtensionAt after rest faults.Truncated
  pub place : at + length rest ≡ length content

-- After the entries comes an extension of this name, which has to be known.
pub record IsRequiredExtension (kind : HashKind) (content name : List ℕ) : Type 0 where
  pub after : List ℕ
  pub rest : List ℕ
  pub entries : HasEntries kind content after
  pub refusal : NoExtensionAt after rest faults.Required
  pub named : name ≡ take 4 rest

-- The error applies to the bytes.
abbrev pub Applies : HashKind → List ℕ → IndexFileError → Type 0
Applies kind bytes (errors.Header fault) = header_at (content_of kind bytes) ≡ Err fault
Applies kind bytes errors.Checksum = EndsWithChecksum kind bytes → ⊥
Applies kind bytes (errors.Entry at fault) = NoEntries kind (content_of kind bytes) at fault
Applies kind bytes (errors.Extension at) = IsCutExtension kind (content_of kind bytes) at
Applies kind bytes (errors.Required name) = IsRequiredExtension kind (content_of kind bytes) name
Applies kind bytes (errors.Strip at) = NoIndexIn kind (content_of kind bytes) (errors.Strip at)
Applies kind bytes (errors.NameLength at) = NoIndexIn kind (content_of kind bytes) (errors.NameLength at)
Applies kind bytes (errors.Index e) = NoIndexIn kind (content_of kind bytes) (errors.Index e)
Applies kind bytes errors.Memory = ⊤

-- A content begins with a header.
pub record IsHeaded (content : List ℕ) : Type 0 where
  pub version : ℕ
  pub count : ℕ
  pub rest : List ℕ
  pub header : HasHeader content version count rest

-- The header is compared before the checksum, and the checksum before all that follows.
abbrev pub Passes : HashKind → List ℕ → IndexFileError → Type 0
Passes kind bytes (errors.Header fault) = ⊤
Passes kind bytes errors.Checksum = IsHeaded (content_of kind bytes)
Passes kind bytes errors.Memory = ⊤
Passes kind bytes _ = EndsWithChecksum kind bytes

-- The error applies to the bytes, and they pass all that is compared before it.
pub record IsFileRefusal (kind : HashKind) (bytes : List ℕ) (e : IndexFileError) : Type 0 where
  pub applies : Applies kind bytes e
  pub passes : Passes kind bytes e

-- The bytes don't begin with a header, for this error.
abbrev pub IsHeaderRefusal : HashKind → List ℕ → IndexFileError → Type 0
IsHeaderRefusal kind bytes (errors.Header fault) = header_at (content_of kind bytes) ≡ Err fault
IsHeaderRefusal kind bytes _ = ⊥
