-- A comparer may read the blob, and a link's target, the file, or what the filter makes of it, or gets an error.
use Rattle.std.specs.Prelude.{◌≡◌, ◌⊎◌, ℕ, Bool, true, false, List, length, Option, Some, None, Result, Ok, Err}
use Rattle.status_index.specs.Content.{Content}
use Rattle.status_index.specs.declared.fault.Fault.{Fault}
use Rattle.status_base.specs.Conversions.{Conversion, refused, same, other}
use Rattle.status_base.specs.declared.worktree.objects.FindError.{FindError}
use Rattle.status_compare.specs.declared.error.Error.{Error}
use Rattle.status_compare.specs.declared.error.Error.TheVariants.{Memory}
use Rattle.status_compare.specs.declared.read_data.Reads.{Reads}
use Rattle.status_compare.specs.declared.stream.Stream.{Stream}
use Rattle.status_compare.specs.Errors.{error_of, find_error_of}
use Rattle.status_compare.specs.Reads.{with_bytes, with_file}
use Rattle.status_compare.specs.Streams.{whole, stream_left, stream_taken}

-- The specified result of reading an entry's file: an error; bytes, then the end or a fault, with or without a known size; or a
-- link's target, whose bytes are counted at once.
pub data Reading : Type 0 where
  fails : Error → Reading
  streams : Content → Option ℕ → Reading
  target : List ℕ → Reading

-- The reading of the file, and the result of reading the entry's blob.
pub record Readings : Type 0 where
  pub file : Reading
  pub blob : Result (List ℕ) Error

-- The counts after a stream is made: of one file more, and of a link's target with its bytes at once.
abbrev pub counts_at_stream : Reading → Reads → Reads
counts_at_stream (fails e) k = k
counts_at_stream (streams content size) k = with_file k
counts_at_stream (target bytes) k = with_file (with_bytes k (length bytes))

-- The specified stream, by its content, its size, and whether it counts; the specified error; or out of memory.
abbrev pub IsReading : {F : Type 0} → (F → Option Content) → Reading → Result (Stream F) Error → Type 0
IsReading left (streams content size) (Ok s) = (stream_left left s ≡ Some content) × (s.size ≡ size) × (stream_taken s ≡ Some 0)
IsReading left (target bytes) (Ok s) = (stream_left left s ≡ Some (whole bytes)) × (s.size ≡ None) × (stream_taken s ≡ None)
IsReading left (fails e) (Ok s) = ⊥
IsReading left (fails e) (Err x) = (x ≡ e) ⊎ (x ≡ Memory)
IsReading left (streams _ _) (Err x) = x ≡ Memory
IsReading left (target _) (Err x) = x ≡ Memory

-- The specified result, or out of memory.
abbrev pub IsSpecified : {A : Type 0} → Result A Error → Result A Error → Type 0
IsSpecified specified answer = (answer ≡ specified) ⊎ (answer ≡ Err Memory)

abbrev pub target_reading : Result (List ℕ) Fault → Reading
target_reading (Ok bytes) = target bytes
target_reading (Err f) = fails (error_of f)

-- An unchanged file has a known size, the node's length.
abbrev pub converted_reading : ℕ → Content → Conversion → Reading
converted_reading len content same = streams content (Some len)
converted_reading len content (other bytes) = streams (whole bytes) None
converted_reading len content (refused f) = fails (error_of f)

abbrev pub file_reading : (Content → Conversion) → ℕ → Result Content Fault → Reading
file_reading conversion len (Ok content) = converted_reading len content (conversion content)
file_reading conversion len (Err f) = fails (error_of f)

-- The reading of the file at a path.
abbrev pub file_at : (Content → List ℕ → Conversion) → (List ℕ → Result Content Fault) → ℕ → List ℕ → Reading
file_at conversion opened len path = file_reading (λ c. conversion c path) len (opened path)

-- The reading of a node: a link's target if links count, otherwise the converted file.
abbrev pub node_reading : Bool → (Content → Conversion) → ℕ → Result Content Fault → Result (List ℕ) Fault → Reading
node_reading true conversion len opened linked = target_reading linked
node_reading false conversion len opened linked = file_reading conversion len opened

abbrev pub blob_reading : Result (List ℕ) FindError → Result (List ℕ) Error
blob_reading (Ok bytes) = Ok bytes
blob_reading (Err e) = Err (find_error_of e)
