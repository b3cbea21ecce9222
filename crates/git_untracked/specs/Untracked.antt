-- Which untracked nodes are found.
use Rattle.std.specs.Prelude.{◌≡◌, ℕ, List, [], Option, Some, None, Vec}
use Rattle.std.specs.Global.{Global}
use Rattle.std.specs.List.{flat_map}
use Rattle.status_index.specs.Entries.{IndexEntry}
use Rattle.git_ignore.specs.Rules.{Rule, rules_of}
use Rattle.git_untracked.specs.Lines.{Lines, no_lines}

-- Which lines may be found for the entries of an index.
abbrev pub MayFind : Type 1
MayFind = List IndexEntry → Lines → Type 0

-- If untracked nodes aren't wanted, there are no lines.
abbrev pub may_find_wanted : {U : Type 0} → (U → MayFind) → Option U → MayFind
may_find_wanted may (Some untracked) es lines = may untracked es lines
may_find_wanted may None es lines = lines ≡ no_lines

-- The rules of files that are for the whole worktree.
abbrev pub outer_rules : List (Vec ℕ Global) → List Rule
outer_rules files = flat_map (λ file. rules_of [] file.items) files
