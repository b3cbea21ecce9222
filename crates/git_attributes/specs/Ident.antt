-- What git stores of a file with the attribute `ident` (`ident_to_git` in `convert.c`).
use Rattle.std.specs.Prelude.{ℕ, ◌==◌, ◌&&◌, ◌||◌, not, Bool, true, false, List, [], ◌∷◌, ◌++◌, codes, take, drop, if◌then◌else◌}
use Rattle.std.specs.Str.{bytes_eq}

-- The first line has a dollar sign: one comes before any line feed.
abbrev pub has_dollar : List ℕ → Bool
has_dollar [] = false
has_dollar (b ∷ rest) = b == 36 || (not (b == 10) && has_dollar rest)

-- An id begins if this text is after a dollar sign: `Id:` comes first, and then a dollar sign on the same line.
abbrev pub begins_id : List ℕ → Bool
begins_id text = bytes_eq (take 3 text) (codes "Id:") && has_dollar (drop 3 text)

-- The bytes that are stored of a text. Of an id `$Id$` is stored, and none of its bytes from the first dollar sign to the next
-- one. Each other byte is stored as it is. `true` says that the text begins within an id.
abbrev pub stored_from : Bool → List ℕ → List ℕ
stored_from is_within [] = []
stored_from true (b ∷ rest) = stored_from (not (b == 36)) rest
stored_from false (b ∷ rest) = if b == 36 && begins_id rest then codes "$Id$" ++ stored_from true rest else (b ∷ stored_from false rest)

-- A file is stored with `$Id$` for each `$Id: .. $` within a line.
abbrev pub without_ids : List ℕ → List ℕ
without_ids text = stored_from false text
