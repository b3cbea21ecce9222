-- The results of comparers, and their reads.
use Rattle.std.specs.Prelude.{ℕ, ◌%◌, ◌^◌, ◌==◌, Bool, not, ◌||◌, ◌&&◌, List, length, Option, Some, None, Result, Ok, Err, if◌then◌else◌}
use Rattle.status_index.specs.BlobId.{id_kind, blob_id, same_id, is_empty_blob}
use Rattle.status_index.specs.StreamId.{first_bytes_id}
use Rattle.status_index.specs.Entries.{IndexEntry}
use Rattle.status_index.specs.declared.fault.Fault.{Fault}
use Rattle.status_index.specs.declared.id.HashKind.{HashKind}
use Rattle.status_index.specs.declared.id.ObjectId.{ObjectId}
use Rattle.status_compare.specs.declared.error.Error.{Error}
use Rattle.status_compare.specs.Errors.{error_of}
use Rattle.status_compare.specs.Reading.{Reading, fails, streams, target, counts_at_stream}
use Rattle.status_compare.specs.Reads.{with_bytes}
use Rattle.status_compare.specs.declared.read_data.Reads.{Reads}

-- A result with a fault as a status reports it.
abbrev pub worktree_result : {A : Type 0} → Result A Fault → Result A Error
worktree_result (Ok x) = Ok x
worktree_result (Err f) = Err (error_of f)

-- The id of all bytes, or the error of the fault after them.
abbrev pub whole_id : HashKind → List ℕ → Option Fault → Result ObjectId Error
whole_id kind bytes (Some f) = Err (error_of f)
whole_id kind bytes None = Ok (blob_id kind bytes)

-- The id of a reading's bytes: if the size is known, of exactly that many; otherwise of all.
abbrev pub reading_id : HashKind → Reading → Result ObjectId Error
reading_id kind (fails e) = Err e
reading_id kind (target bytes) = Ok (blob_id kind bytes)
reading_id kind (streams content (Some size)) = worktree_result (first_bytes_id kind content size)
reading_id kind (streams content None) = whole_id kind content.bytes content.fault

-- A change is reported by the new id.
abbrev pub changed_id : ObjectId → ObjectId → Option ObjectId
changed_id old new = if same_id old new then None else Some new

-- An error, or the change if the new id is another.
abbrev pub changed_result : ObjectId → Result ObjectId Error → Result (Option ObjectId) Error
changed_result old (Ok new) = Ok (changed_id old new)
changed_result old (Err e) = Err e

-- Content differs if the id of the file's bytes (of its known length) isn't the entry's. An error of the reading is returned.
abbrev pub hash_answer : IndexEntry → Reading → Result (Option ObjectId) Error
hash_answer entry reading = changed_result entry.id (reading_id (id_kind entry.id) reading)

-- Whether the sizes alone show a change. The entry's size isn't the low 32 bits of the file's length, and isn't 0 as a mark: the
-- entry's id is the empty blob's, or its size isn't 0.
abbrev pub size_decides : IndexEntry → ℕ → Bool
size_decides entry len = not (entry.stat.size == len % 2 ^ 32) && (is_empty_blob entry.id || not (entry.stat.size == 0))

-- A change without the new id.
abbrev pub without_id : Option ObjectId → Option (Unit {0})
without_id (Some id) = Some tt
without_id None = None

-- A result without the new id.
abbrev pub answer_without_id : Result (Option ObjectId) Error → Result (Option (Unit {0})) Error
answer_without_id (Ok change) = Ok (without_id change)
answer_without_id (Err e) = Err e

-- Content differs if sizes do, unless the entry's is 0 as a mark (its id isn't the empty blob's); otherwise ids decide.
abbrev pub fast_answer : IndexEntry → ℕ → Reading → Result (Option (Unit {0})) Error
fast_answer entry len reading =
    if size_decides entry len then Ok (Some tt) else answer_without_id (hash_answer entry reading)

-- The number of bytes that a comparison by ids hashes from a stream, and counts.
abbrev pub hashed_bytes : Reading → ℕ
hashed_bytes (streams content (Some size)) = size
hashed_bytes (streams content None) = length content.bytes
hashed_bytes (target bytes) = 0
hashed_bytes (fails e) = 0

-- The counts after a comparison by ids.
abbrev pub counts_after_hash : Reading → Reads → Reads
counts_after_hash (fails e) k = k
counts_after_hash (streams content size) k = with_bytes (counts_at_stream (streams content size) k) (hashed_bytes (streams content size))
counts_after_hash (target bytes) k = with_bytes (counts_at_stream (target bytes) k) (hashed_bytes (target bytes))

-- The counts after a comparison by sizes: if sizes decide, nothing is read.
abbrev pub counts_after_fast : IndexEntry → ℕ → Reading → Reads → Reads
counts_after_fast entry len reading k = if size_decides entry len then k else counts_after_hash reading k
