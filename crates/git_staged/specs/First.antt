-- The first entry of a list.
use Rattle.std.specs.Prelude.{◌≡◌, List, ◌∷◌, drop}
use Rattle.status_index.specs.Entries.{IndexEntry}

-- A list begins with an entry.
abbrev pub IsFirstOf : IndexEntry → List IndexEntry → Type 0
IsFirstOf e es = es ≡ e ∷ drop 1 es
