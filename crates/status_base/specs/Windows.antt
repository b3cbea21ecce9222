-- Attributes and times of Windows' directory listings. A name surrogate is a link and no directory; a time before 1970 is 1970,
-- and seconds have 32 bits.
use Rattle.std.specs.Prelude.{ℕ, ◌-◌, ◌*◌, ◌/◌, ◌%◌, ◌^◌, ◌==◌, Bool, not, ◌&&◌}
use Rattle.std.specs.Int.RustNames.{bit_and}

abbrev pub has_bit : ℕ → ℕ → Bool
has_bit bit bits = not (bit_and bits bit == 0)

-- A reparse point whose tag names another place: FILE_ATTRIBUTE_REPARSE_POINT, and the name surrogate bit of the tag.
abbrev pub is_link : ℕ → ℕ → Bool
is_link attributes reparse_tag = has_bit 1024 attributes && has_bit 536870912 reparse_tag

-- FILE_ATTRIBUTE_DIRECTORY of a file that isn't a link.
abbrev pub is_directory : ℕ → ℕ → Bool
is_directory attributes reparse_tag = not (is_link attributes reparse_tag) && has_bit 16 attributes

-- 1970, in steps of 100 nanoseconds since 1601.
abbrev pub unix_start : ℕ
unix_start = 116444736000000000

-- The seconds since 1970 in 32 bits, and the nanoseconds. A time before 1970 is 1970.
abbrev pub unix_seconds : ℕ → ℕ
unix_seconds time = ((time - unix_start) / 10000000) % 2 ^ 32

abbrev pub unix_nanoseconds : ℕ → ℕ
unix_nanoseconds time = ((time - unix_start) % 10000000) * 100
