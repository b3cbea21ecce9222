-- What may be read of an entry's file and blob, whether the reader is modelled or not, and a comparison by what was read.
use Rattle.std.specs.Prelude.{◌≡◌, ◌⊎◌, ℕ, Bool, List, OnOk, Option, Some, None, Result, Ok, Err}
use Rattle.std.specs.Borrow.{Bor}
use Rattle.status_index.specs.Content.{Content}
use Rattle.status_index.specs.Given.{MayGive}
use Rattle.status_index.specs.declared.fault.Fault.{Fault}
use Rattle.status_index.specs.declared.id.HashKind.{HashKind}
use Rattle.status_index.specs.declared.id.ObjectId.{ObjectId}
use Rattle.status_base.specs.Conversions.{Conversion}
use Rattle.status_base.specs.Openings.{MayOpen}
use Rattle.status_base.specs.declared.worktree.filter.ToGitOutcome.{ToGitOutcome}
use Rattle.status_base.specs.declared.worktree.filter.ToGitOutcome.TheVariants.{Unchanged, Buffer}
use Rattle.status_base.specs.declared.worktree.objects.FindError.{FindError}
use Rattle.status_compare.specs.declared.error.Error.{Error}
use Rattle.status_compare.specs.declared.read_data.Reads.{Reads}
use Rattle.status_compare.specs.declared.stream.Stream.{Stream}
use Rattle.status_compare.specs.Reading.{Reading, Readings, IsSpecified, fails, streams, target, blob_reading, counts_at_stream, node_reading}
use Rattle.status_compare.specs.Reads.{HasRead}
use Rattle.status_compare.specs.StreamIds.{IsIdOf}
use Rattle.status_compare.specs.Streams.{outcome_buffer, stream_taken, whole}

-- Which readings of a file, and which blobs, may be had.
abbrev pub MayRead : Type 1
MayRead = Reading → Type 0

abbrev pub MayHaveBlob : Type 1
MayHaveBlob = Result (List ℕ) Error → Type 0

-- The contents of a stream's source: those that its file may give, or that of its buffer.
abbrev pub source_gives : {F : Type 0} → (F → MayGive) → ToGitOutcome F → MayGive
source_gives gives (Unchanged file) content = gives file content
source_gives gives (Buffer buffer) content = content ≡ whole buffer.now

-- A new stream may be of this reading: it has a content of its source and a size, and counts from 0; or it is a link's target, whose
-- bytes were counted.
abbrev pub GivesReading : {F : Type 0} → (F → MayGive) → Stream F → Reading → Type 0
GivesReading gives s (streams content size) = source_gives gives s.source content × (s.size ≡ size) × (stream_taken s ≡ Some 0)
GivesReading gives s (target bytes) = (outcome_buffer s.source ≡ Some bytes) × (s.size ≡ None) × (stream_taken s ≡ None)
GivesReading gives s (fails e) = ⊥

-- A stream from which nothing was read: it counts from 0, or it is a link's target.
abbrev pub IsNewStream : {F : Type 0} → Stream F → Type 0
IsNewStream s = (stream_taken s ≡ Some 0) ⊎ ((stream_taken s ≡ None) × (s.size ≡ None) × ((bytes : List ℕ) × (outcome_buffer s.source ≡ Some bytes)))

-- A new stream is of readings that may be had, and of no others, and was counted. An error is one that reading may have.
abbrev pub IsStreamSeen : {F : Type 0} → (F → MayGive) → MayRead → Reads → Result (Stream F) Error → Reads → Type 0
IsStreamSeen gives may before (Ok s) after = IsNewStream s × ((r : Reading) → GivesReading gives s r → may r × (after ≡ counts_at_stream r before))
IsStreamSeen gives may before (Err e) after = may (fails e)

-- The blob, or the error, may be had.
abbrev pub IsBlobSeen : MayHaveBlob → Result (Bor (List ℕ)) Error → Type 0
IsBlobSeen may (Ok bytes) = may (Ok bytes.now)
IsBlobSeen may (Err e) = may (Err e)

-- A reader may read no more than another.
abbrev pub ReadsWithin : MayRead → MayRead → MayHaveBlob → MayHaveBlob → Type 0
ReadsWithin old new old_blob new_blob = ((r : Reading) → new r → old r) × ((b : Result (List ℕ) Error) → new_blob b → old_blob b)

-- A reading of an entry's file is the converted content of a file that opening may give, or the target of a link that may be read.
pub record IsFileReading (opens : MayOpen) (links : Result (List ℕ) Fault → Type 0) (is_link : Bool) (conversion : Content → Conversion) (len : ℕ) (reading : Reading) : Type 0 where
  pub opened : Result Content Fault
  pub may_open : opens opened
  pub linked : Result (List ℕ) Fault
  pub may_link : links linked
  pub is : reading ≡ node_reading is_link conversion len opened linked

-- A reading of an entry's blob is one that may be found.
pub record IsBlobReading (finds : Result (List ℕ) FindError → Type 0) (blob : Result (List ℕ) Error) : Type 0 where
  pub found : Result (List ℕ) FindError
  pub may_find : finds found
  pub is : blob ≡ blob_reading found

-- The id of a reading that a new stream may be of.
pub record IsIdSeen {F : Type 0} (gives : F → MayGive) (kind : HashKind) (before after : Stream F) (result : Result ObjectId Error) : Type 0 where
  pub reading : Reading
  pub given : GivesReading gives before reading
  pub id : IsIdOf kind reading after result

-- The comparison is the specified one for a file and a blob that may be read, and so are its counts; or memory ran out.
pub record IsComparisonSeen {T : Type 0} (files : MayRead) (blobs : MayHaveBlob) (answers : Readings → Result (Option T) Error) (counts_after : Readings → Reads → Option Reads)
    (before : Reads) (result : Result (Option T) Error) (after : Reads) : Type 0 where
  pub readings : Readings
  pub file : files readings.file
  pub blob : blobs readings.blob
  pub answer : IsSpecified (answers readings) result
  pub counts : OnOk result (HasRead (counts_after readings before) after)
