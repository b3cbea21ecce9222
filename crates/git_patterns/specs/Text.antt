-- Texts: what comes first and last, the position of a byte, and the names of a path.
use Rattle.std.specs.Prelude.{ℕ, ◌-◌, ◌==◌, Bool, false, List, [], ◌∷◌, length, take, drop, slice_index, position, Option, Some, None, if◌then◌else◌}
use Rattle.std.specs.List.{list_any}
use Rattle.std.specs.Str.{bytes_eq}

-- A byte comes first.
abbrev pub begins_with : ℕ → List ℕ → Bool
begins_with c [] = false
begins_with c (b ∷ rest) = b == c

-- The position of the first of these bytes.
abbrev pub first_at : ℕ → List ℕ → Option ℕ
first_at c text = position (λ b. b == c) text

-- How many bytes come before a position, or all if there is none.
abbrev pub len_to : Option ℕ → List ℕ → ℕ
len_to None text = length text
len_to (Some at) text = at

abbrev pub front_to : Option ℕ → List ℕ → List ℕ
front_to None text = text
front_to (Some at) text = take at text

-- The text before the first of these bytes, or the whole text if it has none.
abbrev pub before : ℕ → List ℕ → List ℕ
before c text = front_to (first_at c text) text

-- A byte order mark that comes first doesn't count.
abbrev pub without_mark : List ℕ → List ℕ
without_mark bytes = if bytes_eq (take 3 bytes) (0xEF ∷ 0xBB ∷ 0xBF ∷ []) then drop 3 bytes else bytes

-- A CR at the end isn't part of a line.
abbrev pub without_cr : List ℕ → List ℕ
without_cr line = if slice_index line (length line - 1) == 13 then take (length line - 1) line else line

-- ---- paths

abbrev pub is_slash : ℕ → Bool
is_slash b = b == 47

abbrev pub has_slash : List ℕ → Bool
has_slash text = list_any is_slash text

abbrev pub ends_in_slash : List ℕ → Bool
ends_in_slash text = slice_index text (length text - 1) == 47

-- The text without a slash that comes first.
abbrev pub without_slash : List ℕ → List ℕ
without_slash [] = []
without_slash (b ∷ rest) = if b == 47 then rest else (b ∷ rest)

-- The last name of a path: the text after its last slash.
abbrev pub name_after : List ℕ → List ℕ → List ℕ
name_after name [] = name
name_after name (b ∷ rest) = if b == 47 then name_after rest rest else name_after name rest

abbrev pub name_of : List ℕ → List ℕ
name_of path = name_after path path

-- The path after the folder's, if it begins with that.
abbrev pub below : List ℕ → List ℕ → Option (List ℕ)
below folder path = if bytes_eq (take (length folder) path) folder then Some (drop (length folder) path) else None
