-- The numbers of git's index file (gitformat-index).
use Rattle.std.specs.Prelude.{ℕ, ◌+◌, ◌-◌, ◌/◌, ◌%◌, nat_lt, List, [], ◌∷◌, if◌then◌else◌}
use Rattle.std.specs.Int.{w16, w32, to_be_bytes}

-- Numbers are big-endian.
unfoldable pub u16_bytes : ℕ → List ℕ
u16_bytes n = to_be_bytes w16 n

unfoldable pub u32_bytes : ℕ → List ℕ
u32_bytes n = to_be_bytes w32 n

-- The first numbers that take two, three and four bytes, and the first that takes more.
abbrev pub two_bytes : ℕ
two_bytes = 0x80

abbrev pub three_bytes : ℕ
three_bytes = 0x4080

abbrev pub four_bytes : ℕ
four_bytes = 0x204080

abbrev pub too_many : ℕ
too_many = 0x10204080

-- A number of variable width (version 4): seven bits a byte, high bits first, and 0x80 in each byte but the last. The numbers
-- of a width begin after those of the width before. Of a number from `too_many` on only the low bits count.
unfoldable pub width_bytes : ℕ → List ℕ
width_bytes n =
    if nat_lt n two_bytes then n ∷ []
    else (if nat_lt n three_bytes then (0x80 + (n - two_bytes) / 0x80) ∷ ((n - two_bytes) % 0x80) ∷ []
    else (if nat_lt n four_bytes then (0x80 + (n - three_bytes) / 0x4000) ∷ (0x80 + (n - three_bytes) / 0x80 % 0x80) ∷ ((n - three_bytes) % 0x80) ∷ []
    else (0x80 + (n - four_bytes) / 0x200000 % 0x80) ∷ (0x80 + (n - four_bytes) / 0x4000 % 0x80) ∷ (0x80 + (n - four_bytes) / 0x80 % 0x80) ∷ ((n - four_bytes) % 0x80) ∷ []))
