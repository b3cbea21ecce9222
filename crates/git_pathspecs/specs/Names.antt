-- Names of nodes, and how they begin.
use Rattle.std.specs.Prelude.{ℕ, zero, suc, ◌-◌, ◌==◌, Bool, false, List, [], ◌∷◌, Option, Some, None, if◌then◌else◌}
use Rattle.std.specs.Char.{eq_ignore_ascii_case}
use Rattle.git_patterns.specs.Rows.{named}
use Rattle.git_patterns.specs.Wildmatch.{is_empty}
use Rattle.git_pathspecs.specs.declared.name.Name.{Name}

-- The path of a node, and a slash after it if the name has one.
abbrev pub name_of : Name → List ℕ
name_of n = named n.path.now n.has_slash

abbrev pub first_of : List ℕ → Option (ℕ × List ℕ)
first_of [] = None
first_of (b ∷ rest) = Some (b, rest)

-- Two bytes are the same. If no byte is left in which case counts, so are both cases of an ASCII letter.
abbrev pub is_same : ℕ → ℕ → ℕ → Bool
is_same zero a b = eq_ignore_ascii_case a b
is_same (suc cased) a b = a == b

-- The rest of a text after a front, or None if the text doesn't begin with the front. Case counts in the first bytes, so many.
abbrev pub after_front : ℕ → List ℕ → List ℕ → Option (List ℕ)
after_front cased text [] = Some text
after_front cased [] (f ∷ front) = None
after_front cased (b ∷ text) (f ∷ front) = if is_same cased b f then after_front (cased - 1) text front else None

-- A name ends here, which it may or may not, or goes on with a slash.
abbrev pub is_end : Bool → List ℕ → Bool
is_end may_end [] = may_end
is_end may_end (b ∷ rest) = b == 47

abbrev pub has_one : List ℕ → Bool
has_one [] = false
has_one (b ∷ rest) = is_empty rest
