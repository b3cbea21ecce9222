-- Which suffixes of a path match a pattern, by one pass over the path for each piece.
use Rattle.std.specs.Prelude.{ℕ, ◌==◌, ◌&&◌, ◌||◌, Bool, false, List, [], ◌∷◌, ◌++◌}
use Rattle.git_patterns.specs.Sets.{is_in_set}
use Rattle.git_patterns.specs.Wildmatch.{Part, One, Any, Set, Name, Folders, Everything, after_byte, after_run, after_slash, any_byte, no_slash}

-- The values of a test for the suffixes of a text, the shortest first.
abbrev pub tests : (List ℕ → Bool) → List ℕ → List Bool
tests p [] = p [] ∷ []
tests p (b ∷ rest) = tests p rest ++ p (b ∷ rest) ∷ []

-- A pass carries whether the text after a piece passes, but with `**/` for one folder at least.
abbrev pub carried : Part → (List ℕ → Bool) → List ℕ → Bool
carried (One c) p text = after_byte (λ b. b == c) p text
carried Any p text = after_byte no_slash p text
carried (Set slashes negated items) p text = after_byte (is_in_set slashes negated items) p text
carried Name p text = after_run no_slash p text
carried Folders p text = after_slash p text
carried Everything p text = after_run any_byte p text

-- It starts at the empty suffix, by whether that passes.
abbrev pub carried_first : Part → Bool → Bool
carried_first (One c) here = false
carried_first Any here = false
carried_first (Set slashes negated items) here = false
carried_first Name here = here
carried_first Folders here = false
carried_first Everything here = here

-- It goes on by a byte, and by whether the text from that byte on passes, and the text after the byte.
abbrev pub carried_on : Part → ℕ → Bool → Bool → Bool → Bool
carried_on (One c) b here after carry = b == c && after
carried_on Any b here after carry = no_slash b && after
carried_on (Set slashes negated items) b here after carry = is_in_set slashes negated items b && after
carried_on Name b here after carry = here || (no_slash b && carry)
carried_on Folders b here after carry = (b == 47 && after) || carry
carried_on Everything b here after carry = here || carry

-- The text after a piece passes if that is carried, or if the piece is `**/` for no folder.
abbrev pub value_of : Part → Bool → Bool → Bool
value_of (One c) here carry = carry
value_of Any here carry = carry
value_of (Set slashes negated items) here carry = carry
value_of Name here carry = carry
value_of Folders here carry = here || carry
value_of Everything here carry = carry
