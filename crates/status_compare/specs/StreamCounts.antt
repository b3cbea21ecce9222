-- A stream has bytes of a file or of memory left, then its fault, and may count what it returns. Here are its counts.
use Rattle.std.specs.Prelude.{ℕ, ◌+◌, Bool, true, false, List, length, Option, Some, None}
use Rattle.status_index.specs.Content.{saturate}
use Rattle.status_compare.specs.declared.stream.Stream.{Stream}

-- The count after n more bytes were returned, by whether the stream counts.
abbrev pub count_after : Bool → ℕ → ℕ → ℕ
count_after true counted n = saturate (counted + n)
count_after false counted n = counted

-- The stream's count after it returned its buffer, if it has one.
abbrev pub counted_with : {F : Type 0} → Stream F → Option (List ℕ) → ℕ
counted_with s None = s.counted
counted_with s (Some bytes) = count_after s.counts s.counted (length bytes)

-- The number if the stream counts, otherwise 0.
abbrev pub count_or_none : Bool → ℕ → ℕ
count_or_none true n = n
count_or_none false n = 0

-- The number of bytes that a stream reports as counted.
abbrev pub count_reported : {F : Type 0} → Stream F → ℕ
count_reported s = count_or_none s.counts s.counted
