-- The paths that a pattern of git's wildmatch matches. A slash parts the names of a path.
use Rattle.std.specs.Prelude.{◌≡◌, ◌≢◌, ◌⊎◌, ℕ, ◌==◌, ◌&&◌, ◌||◌, not, Bool, true, false, List, [], ◌∷◌, ◌++◌}
use Rattle.std.specs.List.{AllByRecursion}
use Rattle.git_patterns.specs.declared.set.Item.{Item}
use Rattle.git_patterns.specs.Sets.{is_in_set}

-- A piece of a pattern.
pub data Part : Type 0 where
  -- A byte that matches itself.
  One : ℕ → Part
  -- `?`
  Any : Part
  -- `[..]`, or `[!..]` if it is negated. It may have a slash or not.
  Set : (slashes : Bool) → (negated : Bool) → (items : List Item) → Part
  -- `*`
  Name : Part
  -- `**/`
  Folders : Part
  -- `**` at the end.
  Everything : Part

-- A byte matches itself, `?` a byte of a name, a set one that it has, `*` bytes of a name, or none, `**/` any number of folders, or none,
-- and `**` at the end everything.
abbrev pub Spells : Part → List ℕ → Type 0
Spells (One c) text = text ≡ c ∷ []
Spells Any text = (b : ℕ) × (text ≡ b ∷ []) × (b ≢ 47)
Spells (Set slashes negated items) text = (b : ℕ) × (text ≡ b ∷ []) × (is_in_set slashes negated items b ≡ true)
Spells Name text = AllByRecursion (λ b. b ≢ 47) text
Spells Folders text = (text ≡ []) ⊎ ((front : List ℕ) × (text ≡ front ++ 47 ∷ []))
Spells Everything text = Unit {0}

-- A path matches pieces if it consists of texts that match them, one after the other.
abbrev pub Matches : List Part → List ℕ → Type 0
Matches [] path = path ≡ []
Matches (piece ∷ pieces) path = (text : List ℕ) × (rest : List ℕ) × (path ≡ text ++ rest) × Spells piece text × Matches pieces rest

-- ---- the same as a test

abbrev pub is_empty : List ℕ → Bool
is_empty [] = true
is_empty (b ∷ rest) = false

-- A byte passes, and so does the text after it.
abbrev pub after_byte : (ℕ → Bool) → (List ℕ → Bool) → List ℕ → Bool
after_byte test p [] = false
after_byte test p (b ∷ rest) = test b && p rest

-- Bytes pass, or none, and so does the text after them.
abbrev pub after_run : (ℕ → Bool) → (List ℕ → Bool) → List ℕ → Bool
after_run test p [] = p []
after_run test p (b ∷ rest) = p (b ∷ rest) || (test b && after_run test p rest)

-- The text after a slash passes.
abbrev pub after_slash : (List ℕ → Bool) → List ℕ → Bool
after_slash p [] = false
after_slash p (b ∷ rest) = (b == 47 && p rest) || after_slash p rest

abbrev pub no_slash : ℕ → Bool
no_slash b = not (b == 47)

abbrev pub any_byte : ℕ → Bool
any_byte b = true

abbrev pub after_piece : Part → (List ℕ → Bool) → List ℕ → Bool
after_piece (One c) p path = after_byte (λ b. b == c) p path
after_piece Any p path = after_byte no_slash p path
after_piece (Set slashes negated items) p path = after_byte (is_in_set slashes negated items) p path
after_piece Name p path = after_run no_slash p path
after_piece Folders p path = p path || after_slash p path
after_piece Everything p path = after_run any_byte p path

-- Whether a path matches pieces, piece by piece.
abbrev pub is_match : List Part → List ℕ → Bool
is_match [] path = is_empty path
is_match (piece ∷ pieces) path = after_piece piece (is_match pieces) path
