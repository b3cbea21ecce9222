-- A pattern in double quotes, with the escapes of C.
use Rattle.std.specs.Prelude.{ℕ, ◌+◌, ◌-◌, ◌*◌, ◌==◌, nat_lt, List, [], ◌∷◌, length, Option, Some, None, if◌then◌else◌}
use Rattle.std.specs.Option.{option_and_then}
use Rattle.git_patterns.specs.Items.{closed_by, items_of}
use Rattle.git_patterns.specs.Sets.{is_between}

abbrev pub octal_digit : ℕ → Option ℕ
octal_digit b = if is_between 48 55 b then Some (b - 48) else None

abbrev pub octal_value : ℕ → ℕ → ℕ → List ℕ → Option (ℕ × List ℕ)
octal_value a b c rest = if nat_lt 3 a then None else Some (a * 64 + b * 8 + c, rest)

-- Three octal digits, at most 377.
abbrev pub octal_at : List ℕ → Option (ℕ × List ℕ)
octal_at [] = None
octal_at (a ∷ []) = None
octal_at (a ∷ b ∷ []) = None
octal_at (a ∷ b ∷ c ∷ rest) =
    option_and_then (λ x. option_and_then (λ y. option_and_then (λ z. octal_value x y z rest) (octal_digit c)) (octal_digit b)) (octal_digit a)

-- What follows a backslash: a letter of C, a quote, a backslash, or three octal digits.
abbrev pub escape_at : List ℕ → Option (ℕ × List ℕ)
escape_at [] = None
escape_at (b ∷ rest) =
    if b == 97 then Some (7, rest)
    else (if b == 98 then Some (8, rest)
    else (if b == 116 then Some (9, rest)
    else (if b == 110 then Some (10, rest)
    else (if b == 118 then Some (11, rest)
    else (if b == 102 then Some (12, rest)
    else (if b == 114 then Some (13, rest)
    else (if b == 34 then Some (34, rest)
    else (if b == 92 then Some (92, rest)
    else octal_at (b ∷ rest)))))))))

-- A byte between quotes, and the text after it.
abbrev pub quoted_at : List ℕ → Option (ℕ × List ℕ)
quoted_at [] = None
quoted_at (b ∷ rest) = if b == 34 then None else (if b == 92 then escape_at rest else Some (b, rest))

-- The bytes up to the closing quote, and the text after that.
abbrev pub unquoted : List ℕ → Option (List ℕ × List ℕ)
unquoted text = let found = items_of quoted_at (length text) text in closed_by 34 found.0 found.1
