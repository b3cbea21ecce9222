-- What git stores of a text, and which files it takes for binary (`convert.c`).
use Rattle.std.specs.Prelude.{ℕ, ◌-◌, ◌/◌, nat_lt, ◌==◌, ◌&&◌, ◌||◌, not, Bool, false, List, [], ◌∷◌, count_by, length, slice_index, if◌then◌else◌}
use Rattle.std.specs.List.{list_any}

-- A line feed comes first.
abbrev pub begins_with_lf : List ℕ → Bool
begins_with_lf [] = false
begins_with_lf (b ∷ rest) = b == 10

-- A text is stored without each CR that is directly before an LF.
abbrev pub normalized : List ℕ → List ℕ
normalized [] = []
normalized (b ∷ rest) = if b == 13 && begins_with_lf rest then normalized rest else (b ∷ normalized rest)

-- A CR is directly before an LF.
abbrev pub has_crlf : List ℕ → Bool
has_crlf [] = false
has_crlf (b ∷ rest) = (b == 13 && begins_with_lf rest) || has_crlf rest

-- A CR has no LF after it.
abbrev pub has_lone_cr : List ℕ → Bool
has_lone_cr [] = false
has_lone_cr (b ∷ rest) = (b == 13 && not (begins_with_lf rest)) || has_lone_cr rest

-- Backspace, tab, form feed and escape are printable, and so is what is neither a control character nor DEL.
abbrev pub is_printable : ℕ → Bool
is_printable b = b == 8 || b == 9 || b == 12 || b == 27 || (nat_lt 31 b && not (b == 127))

-- The other bytes are not printable, but LF and CR count as neither.
abbrev pub is_nonprintable : ℕ → Bool
is_nonprintable b = not (is_printable b) && not (b == 10) && not (b == 13)

abbrev pub is_nul : ℕ → Bool
is_nul b = b == 0

-- 1 if the last byte is Control-Z, the end of a file of old systems.
abbrev pub eof_at_end : List ℕ → ℕ
eof_at_end bytes = if slice_index bytes (length bytes - 1) == 26 then 1 else 0

-- How many bytes are not printable. Control-Z at the end doesn't count.
unfoldable pub nonprintables : List ℕ → ℕ
nonprintables bytes = count_by is_nonprintable bytes - eof_at_end bytes

-- A file is binary if it has a lone CR, a NUL, or more bytes that are not printable than one in 128 that are.
unfoldable pub is_binary : List ℕ → Bool
is_binary bytes = has_lone_cr bytes || list_any is_nul bytes || nat_lt (count_by is_printable bytes / 128) (nonprintables bytes)
