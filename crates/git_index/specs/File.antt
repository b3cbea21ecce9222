-- The bytes of an index file: a header, the entries, extensions and a checksum (gitformat-index).
use Rattle.std.specs.Prelude.{◌≡◌, ℕ, ◌^◌, ◌<◌, ◌⊎◌, ◌||◌, ◌==◌, List, [], ◌++◌, length, replicate, codes, Bool, true, nat_le, ◌&&◌, slice_index}
use Rattle.std.specs.List.{flat_map, AllByRecursion}
use Rattle.std.specs.Str.{bytes_eq}
use Rattle.status_index.specs.declared.id.HashKind.{HashKind}
use Rattle.status_index.specs.BlobId.{id_bytes, digest_id}
use Rattle.status_index.specs.Entries.{IndexEntry}
use Rattle.git_index.specs.Numbers.{u32_bytes}
use Rattle.git_index.specs.RawEntry.{RawEntry, RawFits, id_len, raw_bytes}
use Rattle.git_index.specs.Paths.{entries_after, AllFollow}

-- An extension: four bytes of name, the length of its content in four bytes, and the content.
pub record Extension : Type 0 where
  pub name : List ℕ
  pub content : List ℕ

unfoldable pub extension_bytes : Extension → List ℕ
extension_bytes x = x.name ++ (u32_bytes (length x.content) ++ x.content)

-- Whoever doesn't know an extension may skip it if its name starts with a capital.
abbrev pub is_optional : List ℕ → Bool
is_optional name = nat_le 65 (slice_index name 0) && nat_le (slice_index name 0) 90

-- Of those that have to be known, `sdir` is: it says that entries may be folders, those of a sparse index.
abbrev pub is_known : List ℕ → Bool
is_known name = is_optional name || bytes_eq name (codes "sdir")

pub record ExtensionFits (x : Extension) : Type 0 where
  pub name : length x.name ≡ 4
  pub known : is_known x.name ≡ true
  pub content : length x.content < 2 ^ 32

-- Extensions that are known or may be skipped, one after the other.
pub record AreExtensions (bytes : List ℕ) : Type 0 where
  pub each : List Extension
  pub fit : AllByRecursion ExtensionFits each
  pub parts : bytes ≡ flat_map extension_bytes each

-- `DIRC`, the version, and the number of entries.
unfoldable pub header_bytes : ℕ → ℕ → List ℕ
header_bytes version count = codes "DIRC" ++ (u32_bytes version ++ u32_bytes count)

-- The bytes before the checksum, which are hashed.
abbrev pub content_bytes : HashKind → ℕ → List RawEntry → List ℕ → List ℕ
content_bytes kind version rs extensions = header_bytes version (length rs) ++ (flat_map (raw_bytes kind version) rs ++ extensions)

-- The digest of the content, or zeros (git's `index.skipHash`).
abbrev pub IsChecksum : HashKind → List ℕ → List ℕ → Type 0
IsChecksum kind content sum = (sum ≡ id_bytes (digest_id kind content)) ⊎ (sum ≡ replicate (id_len kind) 0)

abbrev pub is_version : ℕ → Bool
is_version n = n == 2 || (n == 3 || n == 4)

-- The parts of a file's content.
pub record IsContent (kind : HashKind) (version : ℕ) (rs : List RawEntry) (extensions content : List ℕ) : Type 0 where
  pub known : is_version version ≡ true
  pub count : length rs < 2 ^ 32
  pub fit : AllByRecursion (RawFits kind version) rs
  pub optional : AreExtensions extensions
  pub whole : content ≡ content_bytes kind version rs extensions

-- These bytes are an index file of this version, with these entries and these bytes of extensions.
pub record IsFileOf (kind : HashKind) (bytes : List ℕ) (version : ℕ) (es : List IndexEntry) (extensions : List ℕ) : Type 0 where
  pub raw : List RawEntry
  pub content : List ℕ
  pub sum : List ℕ
  pub parts : IsContent kind version raw extensions content
  pub follow : AllFollow version [] raw
  pub entries : es ≡ entries_after version [] raw
  pub checked : IsChecksum kind content sum
  pub whole : bytes ≡ content ++ sum

-- These bytes are an index file that has these entries.
pub record IsIndexFile (kind : HashKind) (bytes : List ℕ) (es : List IndexEntry) : Type 0 where
  pub version : ℕ
  pub extensions : List ℕ
  pub file : IsFileOf kind bytes version es extensions
