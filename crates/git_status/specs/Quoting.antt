-- How git prints a path: as it is, or in double quotes with the escapes of C (git's `core.quotePath`).
use Rattle.std.specs.Prelude.{ℕ, ◌+◌, ◌/◌, ◌%◌, ◌==◌, ◌||◌, ◌&&◌, Bool, nat_le, nat_lt, List, [], ◌∷◌, ◌++◌, codes, if◌then◌else◌}
use Rattle.std.specs.List.{flat_map, list_any}

-- A byte that is escaped: a control character, a double quote, a backslash, or with `core.quotePath` one outside of ASCII.
abbrev pub is_odd : Bool → ℕ → Bool
is_odd quote_all byte = nat_lt byte 32 || (byte == 34 || (byte == 92 || (byte == 127 || (quote_all && nat_le 128 byte))))

-- The three octal digits of a byte.
abbrev pub octal : ℕ → List ℕ
octal byte = (48 + byte / 64) ∷ (48 + byte / 8 % 8) ∷ (48 + byte % 8) ∷ []

-- What follows the backslash: the byte itself for a quote or a backslash, C's letter if there is one, otherwise three octal digits.
abbrev pub escape : ℕ → List ℕ
escape byte =
    if byte == 34 || byte == 92 then byte ∷ []
    else (if byte == 7 then codes "a"
    else (if byte == 8 then codes "b"
    else (if byte == 9 then codes "t"
    else (if byte == 10 then codes "n"
    else (if byte == 11 then codes "v"
    else (if byte == 12 then codes "f"
    else (if byte == 13 then codes "r" else octal byte)))))))

-- A byte between the quotes.
abbrev pub quoted_byte : Bool → ℕ → List ℕ
quoted_byte quote_all byte = if is_odd quote_all byte then 92 ∷ escape byte else byte ∷ []

-- A path is put in quotes if it has a byte that is escaped, or a space.
abbrev pub is_quoted : Bool → List ℕ → Bool
is_quoted quote_all path = list_any (λ byte. byte == 32 || is_odd quote_all byte) path

-- A path in double quotes.
abbrev pub quoted_text : Bool → List ℕ → List ℕ
quoted_text quote_all path = 34 ∷ (flat_map (quoted_byte quote_all) path ++ 34 ∷ [])

-- A path as git prints it.
abbrev pub path_text : Bool → List ℕ → List ℕ
path_text quote_all path = if is_quoted quote_all path then quoted_text quote_all path else path
