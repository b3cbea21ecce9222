-- The id of a stream's bytes.
use Rattle.std.specs.Prelude.{◌≡◌, ◌⊎◌, Result, Ok, Err}
use Rattle.status_index.specs.Content.{saturate}
use Rattle.status_index.specs.declared.id.HashKind.{HashKind}
use Rattle.status_index.specs.declared.id.ObjectId.{ObjectId}
use Rattle.status_compare.specs.declared.error.Error.{Error}
use Rattle.status_compare.specs.declared.error.Error.TheVariants.{Memory}
use Rattle.status_compare.specs.declared.stream.Stream.{Stream}
use Rattle.status_compare.specs.Comparers.{reading_id, hashed_bytes}
use Rattle.status_compare.specs.Reading.{Reading}
use Rattle.status_compare.specs.StreamCounts.{count_reported}

-- The reading's id, with as many bytes counted as were hashed; the reading's error; or out of memory.
abbrev pub IsIdOf : {F : Type 0} → HashKind → Reading → Stream F → Result ObjectId Error → Type 0
IsIdOf kind reading after (Ok id) = (reading_id kind reading ≡ Ok id) × (saturate (count_reported after) ≡ saturate (hashed_bytes reading))
IsIdOf kind reading after (Err e) = (reading_id kind reading ≡ Err e) ⊎ (e ≡ Memory)
