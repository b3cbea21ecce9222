-- Moments, ordered by seconds and then by nanoseconds.
use Rattle.std.specs.Prelude.{◌≡◌, ◌⊎◌, ◌+◌, ◌/◌, ◌%◌, ◌<◌, ◌≤◌, ◌==◌, ℕ, nat_lt, Bool, ◌&&◌, ◌||◌}
use Rattle.status_index.specs.declared.stat.Moment.{Moment}
use Rattle.status_index.specs.declared.stat.Time.{Time}

-- The time of a file as a moment, and a moment as the time of a file.
abbrev pub moment_of : Time → Moment
moment_of t = record { secs = t.secs; nsecs = t.nsecs }

abbrev pub stamp_of : Moment → Time
stamp_of m = record { secs = m.secs; nsecs = m.nsecs }

-- The first moment isn't later than the second.
abbrev pub IsAtMost : Moment → Moment → Type 0
IsAtMost a b = (a.secs < b.secs) ⊎ ((a.secs ≡ b.secs) × (a.nsecs ≤ b.nsecs))

-- Whether the first moment is later than the second.
abbrev pub is_after : Moment → Moment → Bool
is_after a b = nat_lt b.secs a.secs || (a.secs == b.secs && nat_lt b.nsecs a.nsecs)

-- A moment that is this number of seconds later.
abbrev pub plus_seconds : Moment → ℕ → Moment
plus_seconds m n = record { secs = m.secs + n; nsecs = m.nsecs }

-- A moment that is this number of nanoseconds later.
abbrev pub plus_nanoseconds : Moment → ℕ → Moment
plus_nanoseconds m n = record { secs = m.secs + (m.nsecs + n) / 1000000000; nsecs = (m.nsecs + n) % 1000000000 }
