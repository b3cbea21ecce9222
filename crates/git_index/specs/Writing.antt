-- The file that is written of an index.
use Rattle.std.specs.Prelude.{ℕ, suc, ◌-◌, ◌==◌, Bool, true, false, List, [], ◌∷◌, ◌++◌, length, drop, replicate, if◌then◌else◌}
use Rattle.std.specs.List.{AllByRecursion}
use Rattle.status_index.specs.declared.id.HashKind.{HashKind}
use Rattle.status_index.specs.BlobId.{id_bytes, digest_id}
use Rattle.status_index.specs.Entries.{IndexEntry}
use Rattle.git_index.specs.RawEntry.{RawEntry, RawFits, id_len, short_len}
use Rattle.git_index.specs.File.{content_bytes}

-- The length of the longest common front of two lists.
abbrev pub common_len : List ℕ → List ℕ → ℕ
common_len [] ys = 0
common_len (x ∷ xs) [] = 0
common_len (x ∷ xs) (y ∷ ys) = if x == y then suc (common_len xs ys) else 0

-- An entry as it is written after the entry with this path: in version 4 its name is its path without the front that it shares
-- with that path.
abbrev pub raw_after : ℕ → List ℕ → IndexEntry → RawEntry
raw_after version before e =
    let shared = if version == 4 then common_len before e.path else 0 in
    record {
      stat = e.stat;
      mode = e.mode;
      id = e.id;
      flags = e.flags.0;
      stated = short_len (length e.path);
      strip = if version == 4 then length before - shared else 0;
      name = drop shared e.path;
    }

abbrev pub raw_entries : ℕ → List ℕ → List IndexEntry → List RawEntry
raw_entries version before [] = []
raw_entries version before (e ∷ es) = raw_after version before e ∷ raw_entries version e.path es

-- The checksum of a content, or zeros.
abbrev pub checksum_bytes : HashKind → Bool → List ℕ → List ℕ
checksum_bytes kind true content = id_bytes (digest_id kind content)
checksum_bytes kind false content = replicate (id_len kind) 0

-- The file of these entries and extensions.
abbrev pub file_bytes : HashKind → ℕ → List IndexEntry → List ℕ → Bool → List ℕ
file_bytes kind version es extensions has_checksum =
    let content = content_bytes kind version (raw_entries version [] es) extensions in
    content ++ checksum_bytes kind has_checksum content

-- Entries that a file of this version can have.
abbrev pub EntriesFit : HashKind → ℕ → List IndexEntry → Type 0
EntriesFit kind version es = AllByRecursion (RawFits kind version) (raw_entries version [] es)
