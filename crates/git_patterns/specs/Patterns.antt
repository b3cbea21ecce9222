-- How the text of a pattern is read as its parts.
use Rattle.std.specs.Prelude.{ℕ, ◌==◌, ◌&&◌, ◌||◌, Bool, true, false, List, [], ◌∷◌, ◌++◌, length, drop, take, map, position, Option, Some, None, option_map, if◌then◌else◌}
use Rattle.git_patterns.specs.Items.{all_of, items_of}
use Rattle.git_patterns.specs.Sets.{byte_at, set_at}
use Rattle.git_patterns.specs.Text.{begins_with, len_to}
use Rattle.git_patterns.specs.Wildmatch.{Part, One, Any, Set, Name, Folders, Everything}

-- The text after the stars that come first.
abbrev pub after_stars : List ℕ → List ℕ
after_stars [] = []
after_stars (b ∷ rest) = if b == 42 then after_stars rest else (b ∷ rest)

-- Two or more stars that begin a name are `**` at the end and `**/` before a slash; otherwise they are a single one.
abbrev pub stars_at : List ℕ → Part × List ℕ
stars_at [] = (Everything, [])
stars_at (b ∷ rest) =
    if b == 47 then (Folders, rest)
    else (if b == 92 && begins_with 47 rest then (Everything, b ∷ rest) else (Name, b ∷ rest))

-- Stars that don't begin a name are a single one.
abbrev pub star_at : Bool → List ℕ → Part × List ℕ
star_at at_name rest =
    if begins_with 42 rest && at_name then stars_at (after_stars rest) else (Name, after_stars rest)

abbrev pub escaped_at : List ℕ → Option (Part × List ℕ)
escaped_at rest = option_map (λ x. (One x.0, x.1)) (byte_at rest)

abbrev pub set_part_at : Bool → List ℕ → Option (Part × List ℕ)
set_part_at negated bytes = option_map (λ x. (Set false negated x.0, x.1)) (set_at bytes)

-- A `!` or a `^` that comes first negates a set.
abbrev pub any_set_at : List ℕ → Option (Part × List ℕ)
any_set_at [] = set_part_at false []
any_set_at (b ∷ rest) = if b == 33 || b == 94 then set_part_at true rest else set_part_at false (b ∷ rest)

-- The part that comes first, and the text after it.
unfoldable pub part_at : Bool → List ℕ → Option (Part × List ℕ)
part_at at_name [] = None
part_at at_name (b ∷ rest) =
    if b == 63 then Some (Any, rest)
    else (if b == 42 then Some (star_at at_name rest)
    else (if b == 92 then escaped_at rest
    else (if b == 91 then any_set_at rest
    else Some (One b, rest))))

-- A name begins after a slash.
abbrev pub begins_name : Part → Bool
begins_name (One b) = b == 47
begins_name Folders = true
begins_name part = false

abbrev pub part_step : Bool × List ℕ → Option (Part × (Bool × List ℕ))
part_step s = option_map (λ x. (x.0, (begins_name x.0, x.1))) (part_at s.0 s.1)

abbrev pub is_special : ℕ → Bool
is_special b = b == 42 || b == 63 || b == 91 || b == 92

abbrev pub special_at : List ℕ → Option ℕ
special_at pattern = position is_special pattern

-- How many bytes come before the first one with a meaning of its own.
abbrev pub literal_len : List ℕ → ℕ
literal_len pattern = len_to (special_at pattern) pattern

-- The parts of a pattern: the bytes before the first one with a meaning of its own, and then the other parts. A name begins after those bytes.
abbrev pub parts_of : List ℕ → Option (List Part)
parts_of pattern =
    let front = take (literal_len pattern) pattern in let rest = drop (literal_len pattern) pattern in
    let found = items_of part_step (length rest) (true, rest) in all_of (map One front ++ found.0) found.1.1
