-- How often a search asks its probe.
use Rattle.std.specs.Prelude.{ℕ, ◌+◌, ◌-◌, ◌^◌, min}

-- A count after one more question, up to the greatest u32.
abbrev pub once_more : ℕ → ℕ
once_more n = min (n + 1) (2 ^ 32 - 1)
