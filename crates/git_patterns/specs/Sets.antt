-- Sets of bytes in a pattern of git's wildmatch.
use Rattle.std.specs.Prelude.{ℕ, ◌+◌, ◌-◌, ◌==◌, ◌&&◌, ◌||◌, not, nat_le, nat_lt, Bool, true, false, List, [], ◌∷◌, length, take, drop, slice_index, codes, Option, Some, None, option_map, if◌then◌else◌}
use Rattle.std.specs.List.{list_any}
use Rattle.std.specs.Option.{option_and_then}
use Rattle.std.specs.Str.{bytes_eq}
use Rattle.git_patterns.specs.declared.set.Class.{Class}
use Rattle.git_patterns.specs.declared.set.Class.TheVariants.{Alnum, Alpha, Blank, Cntrl, Digit, Graph, Lower, Print, Punct, Space, Upper, Xdigit}
use Rattle.git_patterns.specs.declared.set.Item.{Item}
use Rattle.git_patterns.specs.declared.set.Item.TheVariants.{Range, Class as Named}
use Rattle.git_patterns.specs.Items.{closed_by, items_of}
use Rattle.git_patterns.specs.Text.{first_at}

-- The class of a name.
abbrev pub class_named : List ℕ → Option Class
class_named name =
    if bytes_eq name (codes "alnum") then Some Alnum
    else (if bytes_eq name (codes "alpha") then Some Alpha
    else (if bytes_eq name (codes "blank") then Some Blank
    else (if bytes_eq name (codes "cntrl") then Some Cntrl
    else (if bytes_eq name (codes "digit") then Some Digit
    else (if bytes_eq name (codes "graph") then Some Graph
    else (if bytes_eq name (codes "lower") then Some Lower
    else (if bytes_eq name (codes "print") then Some Print
    else (if bytes_eq name (codes "punct") then Some Punct
    else (if bytes_eq name (codes "space") then Some Space
    else (if bytes_eq name (codes "upper") then Some Upper
    else (if bytes_eq name (codes "xdigit") then Some Xdigit
    else None)))))))))))

abbrev pub is_between : ℕ → ℕ → ℕ → Bool
is_between first last b = nat_le first b && nat_le b last

abbrev pub is_digit : ℕ → Bool
is_digit b = is_between 48 57 b

abbrev pub is_upper : ℕ → Bool
is_upper b = is_between 65 90 b

abbrev pub is_lower : ℕ → Bool
is_lower b = is_between 97 122 b

-- A class has ASCII bytes, as POSIX says; git's spaces are only space, tab, LF and CR.
abbrev pub is_in_class : Class → ℕ → Bool
is_in_class Alnum b = is_digit b || is_upper b || is_lower b
is_in_class Alpha b = is_upper b || is_lower b
is_in_class Blank b = b == 32 || b == 9
is_in_class Cntrl b = nat_le b 31 || b == 127
is_in_class Digit b = is_digit b
is_in_class Graph b = is_between 33 126 b
is_in_class Lower b = is_lower b
is_in_class Print b = is_between 32 126 b
is_in_class Punct b = is_between 33 47 b || is_between 58 64 b || is_between 91 96 b || is_between 123 126 b
is_in_class Space b = b == 32 || b == 9 || b == 10 || b == 13
is_in_class Upper b = is_upper b
is_in_class Xdigit b = is_digit b || is_between 65 70 b || is_between 97 102 b

-- An item has its first byte and those from it to the last one, or the bytes of its class.
abbrev pub is_in_item : ℕ → Item → Bool
is_in_item b (Range first last) = b == first || is_between first last b
is_in_item b (Named class) = is_in_class class b

-- A set has each byte of its items, or if it is negated each other byte. It has a slash only if it may have one.
abbrev pub is_in_set : Bool → Bool → List Item → ℕ → Bool
is_in_set slashes negated items b =
    if b == 47 && not slashes then false else (if negated then not (list_any (is_in_item b) items) else list_any (is_in_item b) items)

-- ---- the text of a set

abbrev pub byte_at : List ℕ → Option (ℕ × List ℕ)
byte_at [] = None
byte_at (b ∷ rest) = Some (b, rest)

-- A byte of a set, and the text after it: after a backslash each byte counts as itself.
abbrev pub member_at : List ℕ → Option (ℕ × List ℕ)
member_at [] = None
member_at (b ∷ rest) = if b == 92 then byte_at rest else Some (b, rest)

abbrev pub is_not_close : List ℕ → Bool
is_not_close [] = false
is_not_close (b ∷ rest) = not (b == 93)

-- A dash makes a range unless it is the last byte of its set.
abbrev pub has_range : List ℕ → Bool
has_range [] = false
has_range (b ∷ rest) = b == 45 && is_not_close rest

abbrev pub range_after : ℕ × List ℕ → Option (Item × List ℕ)
range_after first =
    if has_range first.1 then option_map (λ last. (Range first.0 last.0, last.1)) (member_at (drop 1 first.1)) else Some (Range first.0 first.0, first.1)

-- A byte, or two with a dash between them.
abbrev pub range_at : List ℕ → Option (Item × List ℕ)
range_at bytes = option_and_then range_after (member_at bytes)

abbrev pub class_to : Option ℕ → List ℕ → Option (List ℕ × List ℕ)
class_to None bytes = None
class_to (Some end) bytes = if nat_lt 0 end && slice_index bytes (end - 1) == 58 then Some (take (end - 1) bytes, drop (end + 1) bytes) else None

-- The name of a class: a colon has to come before the first `]`.
abbrev pub class_at : List ℕ → Option (List ℕ × List ℕ)
class_at bytes = class_to (first_at 93 bytes) bytes

abbrev pub named_item : Option (List ℕ × List ℕ) → List ℕ → Option (Item × List ℕ)
named_item None bytes = range_at bytes
named_item (Some found) bytes = option_map (λ class. (Named class, found.1)) (class_named found.0)

abbrev pub begins_with_colon : List ℕ → Bool
begins_with_colon [] = false
begins_with_colon (b ∷ rest) = b == 58

-- An item of a set: a byte, a range, or a class as `[:digit:]`. A `]` ends the set unless it comes first.
abbrev pub item_at : Bool → List ℕ → Option (Item × List ℕ)
item_at is_first [] = None
item_at is_first (b ∷ rest) =
    if b == 93 && not is_first then None
    else (if b == 91 && begins_with_colon rest then named_item (class_at (drop 1 rest)) (b ∷ rest) else range_at (b ∷ rest))

abbrev pub item_step : Bool × List ℕ → Option (Item × (Bool × List ℕ))
item_step s = option_map (λ x. (x.0, (false, x.1))) (item_at s.0 s.1)

-- The items of a set up to its `]`, and the text after that.
abbrev pub set_at : List ℕ → Option (List Item × List ℕ)
set_at bytes = let found = items_of item_step (length bytes) (true, bytes) in closed_by 93 found.0 found.1.1
