-- An index file in memory that can be written.
use Rattle.std.specs.Prelude.{◌≡◌, ◌↔◌, ◌<◌, ◌^◌, ℕ, true, false, List, length, replicate}
use Rattle.status_index.specs.States.{index_of, timestamp_of}
use Rattle.status_index.specs.declared.id.HashKind.{HashKind}
use Rattle.status_index.specs.declared.stat.Moment.{Moment}
use Rattle.git_index.specs.declared.index_file.IndexFile.{IndexFile}
use Rattle.git_index.specs.File.{AreExtensions, IsFileOf, is_version}
use Rattle.git_index.specs.RawEntry.{id_len}
use Rattle.git_index.specs.Refusals.{EndsWithChecksum, sum_of}
use Rattle.git_index.specs.Writing.{EntriesFit}

-- Its entries and extensions can be those of a file of its version.
pub record IsWholeFile (f : IndexFile) : Type 0 where
  pub known : is_version f.version ≡ true
  pub count : length (index_of f.state) < 2 ^ 32
  pub fit : EntriesFit f.kind f.version (index_of f.state)
  pub optional : AreExtensions f.extensions.now

-- A file that was read of these bytes. If they end with its checksum, they are this file.
pub record IsUncheckedFile (kind : HashKind) (bytes : List ℕ) (timestamp : Moment) (f : IndexFile) : Type 0 where
  pub found : EndsWithChecksum kind bytes → IsFileOf kind bytes f.version (index_of f.state) f.extensions.now
  pub kind_is : f.kind ≡ kind
  pub whole : IsWholeFile f
  pub sum : (f.has_checksum ≡ false) ↔ (sum_of kind bytes ≡ replicate (id_len kind) 0)
  pub time : timestamp_of f.state ≡ timestamp
