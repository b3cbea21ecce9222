-- The paths that ignore rules exclude (gitignore(5)). Later rules are stronger.
use Rattle.std.specs.Prelude.{◌≡◌, ℕ, ◌==◌, ◌&&◌, ◌||◌, not, Bool, true, false, List, [], ◌∷◌, ◌++◌, Option, Some, None, if◌then◌else◌}
use Rattle.std.specs.List.{list_any}
use Rattle.std.specs.Option.{option_or}
use Rattle.git_patterns.specs.Text.{below, name_of}
use Rattle.git_patterns.specs.Wildmatch.{is_match}
use Rattle.git_ignore.specs.Rules.{Rule}

abbrev pub is_match_below : Rule → Option (List ℕ) → Bool
is_match_below rule None = false
is_match_below rule (Some path) = is_match rule.parts (if rule.by_name then name_of path else path)

-- A rule is for the paths below its folder that match its pattern: by their last name, or from the folder on. A rule for folders only is for
-- no other path.
abbrev pub is_for : Rule → List ℕ → Bool → Bool
is_for rule path is_folder = if rule.only_folders && not is_folder then false else is_match_below rule (below rule.folder path)

-- The last rule that is for a path.
abbrev pub last_for : List Rule → List ℕ → Bool → Option Rule
last_for [] path is_folder = None
last_for (rule ∷ rules) path is_folder = option_or (last_for rules path is_folder) (if is_for rule path is_folder then Some rule else None)

abbrev pub excludes : Option Rule → Bool
excludes None = false
excludes (Some rule) = not rule.negated

-- Of the rules for a path the last one decides: a negated one includes it, and another one excludes it.
abbrev pub is_matched : List Rule → List ℕ → Bool → Bool
is_matched rules path is_folder = excludes (last_for rules path is_folder)

abbrev pub folders_from : List ℕ → List ℕ → List (List ℕ)
folders_from front [] = []
folders_from front (b ∷ rest) =
    let more = folders_from (front ++ b ∷ []) rest in if b == 47 then front ∷ more else more

-- The folders above a path: its fronts before a slash, the topmost one first.
abbrev pub folders_above : List ℕ → List (List ℕ)
folders_above path = folders_from [] path

-- A path is excluded if a folder above it is matched, or it is matched itself. So what is below an excluded folder isn't included again.
abbrev pub is_excluded : List Rule → List ℕ → Bool → Bool
is_excluded rules path is_folder = list_any (λ folder. is_matched rules folder true) (folders_above path) || is_matched rules path is_folder

-- ---- within a folder

-- A rule of a file that is in this folder, or deeper.
abbrev pub IsWithin : List ℕ → Rule → Type 0
IsWithin folder rule = (more : List ℕ) × (rule.folder ≡ folder ++ 47 ∷ more)
