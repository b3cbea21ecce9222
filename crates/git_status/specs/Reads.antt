-- The bytes of an index file, and the index that was read from them.
use Rattle.std.specs.Prelude.{◌≡◌, ◌↔◌, ℕ, true, false, List, replicate}
use Rattle.git_index.specs.File.{IsFileOf, IsIndexFile}
use Rattle.git_index.specs.RawEntry.{id_len}
use Rattle.git_index.specs.Refusals.{EndsWithChecksum, IsFileRefusal, sum_of}
use Rattle.git_index.specs.WholeFile.{IsWholeFile}
use Rattle.git_index.specs.declared.fault.IndexFileError.{IndexFileError}
use Rattle.git_index.specs.declared.fault.IndexFileError.TheVariants as index
use Rattle.status_index.specs.Entries.{IndexEntry, IsIndex}
use Rattle.status_index.specs.States.{index_of, timestamp_of}
use Rattle.git_status.specs.Failures.{failure_of_index}
use Rattle.git_status.specs.declared.asked.Settings.{Settings}
use Rattle.git_status.specs.declared.failure.Failure.{Failure}
use Rattle.git_status.specs.declared.read.ReadIndex.{ReadIndex}

-- The bytes are this index file if they end with its checksum, which may have been compared. It was read with the kind of ids and
-- the timestamp of these settings.
pub record IsRead (s : Settings) (r : ReadIndex) : Type 0 where
  pub kind : r.file.kind ≡ s.kind
  pub checked : r.is_checked ≡ true → EndsWithChecksum s.kind r.bytes.now
  pub file : EndsWithChecksum s.kind r.bytes.now → IsFileOf s.kind r.bytes.now r.file.version (index_of r.file.state) r.file.extensions.now
  pub whole : IsWholeFile r.file
  pub sum : (r.file.has_checksum ≡ false) ↔ (sum_of s.kind r.bytes.now ≡ replicate (id_len s.kind) 0)
  pub time : timestamp_of r.file.state ≡ s.timestamp

-- The bytes are refused as an index file; those of a valid index are refused only if memory ran out.
pub record IsRefusedFile (s : Settings) (bytes : List ℕ) (f : Failure) : Type 0 where
  pub error : IndexFileError
  pub refusal : IsFileRefusal s.kind bytes error
  pub valid : (es : List IndexEntry) → IsIndexFile s.kind bytes es → IsIndex es → error ≡ index.Memory
  pub failure : f ≡ failure_of_index error
