-- The number of workers, and of the entries of a piece.
use Rattle.std.specs.Prelude.{ℕ, min, ◌==◌, if◌then◌else◌, Option, Some, None}

-- As many as the limit, and 64 at most; 4 if there is no limit or it is 0.
abbrev pub most_workers : Option ℕ → ℕ
most_workers None = 4
most_workers (Some limit) = if limit == 0 then 4 else min limit 64

-- As many entries as `chunk_size`, or 500 if it is 0.
abbrev pub chunk_size_of : ℕ → ℕ
chunk_size_of chunk_size = if chunk_size == 0 then 500 else chunk_size
