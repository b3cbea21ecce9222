-- Assignments of attributes.
use Rattle.std.specs.Prelude.{ℕ, ◌+◌, ◌==◌, ◌||◌, Bool, false, List, [], ◌∷◌, length, take, drop, Option, Some, None, option_map, if◌then◌else◌}
use Rattle.std.specs.List.{list_all}
use Rattle.std.specs.Option.{option_and_then}
use Rattle.git_patterns.specs.Items.{all_of, items_of}
use Rattle.git_patterns.specs.Sets.{is_digit, is_lower, is_upper}
use Rattle.git_patterns.specs.Text.{before, first_at}
use Rattle.git_attributes.specs.Words.{skip_blanks, word_at}

-- An attribute is set, unset, unspecified, or set to a text.
pub data State : Type 0 where
  Set : State
  Unset : State
  Unspecified : State
  Text : List ℕ → State

-- An attribute's name, and the state that a line assigns to it.
abbrev pub Given : Type 0
Given = List ℕ × State

abbrev pub is_name_byte : ℕ → Bool
is_name_byte b = is_digit b || is_upper b || is_lower b || b == 45 || b == 46 || b == 95

-- A name has letters, digits, `-`, `.` and `_`, and doesn't begin with a `-`.
abbrev pub is_name : List ℕ → Bool
is_name [] = false
is_name (b ∷ rest) = if b == 45 then false else list_all is_name_byte (b ∷ rest)

abbrev pub named : List ℕ → State → Option Given
named name state = if is_name name then Some (name, state) else None

abbrev pub named_by : Option ℕ → List ℕ → Option Given
named_by None word = named word Set
named_by (Some at) word = named (take at word) (Text (drop (at + 1) word))

-- A word sets its name; `-` before it unsets it, and `!` makes it unspecified; `=` after it sets it to a text.
abbrev pub assignment_of : List ℕ → Option Given
assignment_of [] = named_by (first_at 61 []) []
assignment_of (b ∷ rest) =
    if b == 45 then named (before 61 rest) Unset
    else (if b == 33 then named (before 61 rest) Unspecified else named_by (first_at 61 (b ∷ rest)) (b ∷ rest))

abbrev pub assigned_word : List ℕ × List ℕ → Option (Given × List ℕ)
assigned_word found = option_map (λ given. (given, found.1)) (assignment_of found.0)

-- The assignment that the first word is, and the text after it.
abbrev pub assignment_at : List ℕ → Option (Given × List ℕ)
assignment_at text = option_and_then assigned_word (word_at text)

-- The assignments of a line. It has none if a word of it is none.
abbrev pub assignments_of : List ℕ → Option (List Given)
assignments_of text = let found = items_of assignment_at (length text) text in all_of found.0 (skip_blanks found.1)
