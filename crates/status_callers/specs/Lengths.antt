-- A comparer that compares the lengths of a file and its blob.
use Rattle.std.specs.Prelude.{ℕ, ◌==◌, List, length, Option, Some, None, Result, Ok, Err, if◌then◌else◌}
use Rattle.status_compare.specs.declared.error.Error.{Error}
use Rattle.status_compare.specs.Reads.{with_object}
use Rattle.status_compare.specs.declared.read_data.Reads.{Reads}

-- the file's length if the lengths differ, or why the blob can't be read
abbrev pub length_answer : ℕ → Result (List ℕ) Error → Result (Option ℕ) Error
length_answer size (Ok blob) = Ok (if length blob == size then None else Some size)
length_answer size (Err e) = Err e

-- the blob is counted; if it can't be read, the counts aren't specified
abbrev pub length_counts : Result (List ℕ) Error → Reads → Option Reads
length_counts (Ok blob) k = Some (with_object k (length blob))
length_counts (Err e) k = None
