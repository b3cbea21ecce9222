-- Comparers that are chosen by their names, with one type of change.
use Rattle.std.specs.Prelude.{ℕ, Option, Some, None, option_map, Result, Ok, Err}
use Rattle.status_index.specs.Entries.{IndexEntry}
use Rattle.status_index.specs.declared.id.ObjectId.{ObjectId}
use Rattle.status_compare.specs.Comparers.{hash_answer, fast_answer, counts_after_hash, counts_after_fast}
use Rattle.status_compare.specs.Reading.{Readings}
use Rattle.status_compare.specs.declared.compare.Comparer.{Comparer}
use Rattle.status_compare.specs.declared.compare.Comparer.TheVariants.{Hash, Fast}
use Rattle.status_compare.specs.declared.error.Error.{Error}
use Rattle.status_compare.specs.declared.read_data.Reads.{Reads}

-- A comparison by ids: a change has the new id.
abbrev pub with_new_id : Result (Option ObjectId) Error → Result (Option (Option ObjectId)) Error
with_new_id (Ok change) = Ok (option_map Some change)
with_new_id (Err e) = Err e

-- A comparison by `FastEq`: a change has no id.
abbrev pub without_new_id : Result (Option (Unit {0})) Error → Result (Option (Option ObjectId)) Error
without_new_id (Ok change) = Ok (option_map (λ _. None) change)
without_new_id (Err e) = Err e

-- The result of a comparer with this name.
abbrev pub compared_by : Comparer → IndexEntry → ℕ → Readings → Result (Option (Option ObjectId)) Error
compared_by Hash e len m = with_new_id (hash_answer e m.file)
compared_by Fast e len m = without_new_id (fast_answer e len m.file)

-- The reads of a comparer with this name.
abbrev pub counted_by : Comparer → IndexEntry → ℕ → Readings → Reads → Option Reads
counted_by Hash e len m k = Some (counts_after_hash m.file k)
counted_by Fast e len m k = Some (counts_after_fast e len m.file k)
