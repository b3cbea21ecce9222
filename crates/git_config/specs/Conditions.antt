-- The conditions of `includeIf`, and which texts their patterns match.
use Rattle.std.specs.Prelude.{ℕ, ◌++◌, ◌==◌, ◌&&◌, ◌||◌, not, nat_le, Bool, true, false, List, [], length, take, drop, map, codes, Option, Some, None, option_map, if◌then◌else◌}
use Rattle.std.specs.List.{list_any}
use Rattle.std.specs.Option.{option_or}
use Rattle.std.specs.Str.{bytes_eq}
use Rattle.std.specs.Char.{to_ascii_lowercase}
use Rattle.git_patterns.specs.Styles.{styled_parts_of}
use Rattle.git_patterns.specs.Text.{begins_with, below, ends_in_slash}
use Rattle.git_patterns.specs.Wildmatch.{Part, is_match}
use Rattle.git_patterns.specs.declared.wildcards.Style.{Style}

-- A condition asks for the repository's folder, by a pattern whose letters match in either case or not, the branch of `HEAD`, or the
-- URL of a remote.
pub data Asks : Type 0 where
  GitDir : Bool → List ℕ → Asks
  OnBranch : List ℕ → Asks
  HasRemoteUrl : List ℕ → Asks

-- The condition that a text spells.
abbrev pub condition_of : List ℕ → Option Asks
condition_of text =
    option_or (option_map (GitDir false) (below (codes "gitdir:") text))
    (option_or (option_map (GitDir true) (below (codes "gitdir/i:") text))
    (option_or (option_map OnBranch (below (codes "onbranch:") text))
    (option_map HasRemoteUrl (below (codes "hasconfig:remote.*.url:") text))))

-- ---- patterns

-- A set or a backslash. The letters of a set, and one after a backslash, have a case in git, also if other letters have none.
abbrev pub is_cased : ℕ → Bool
is_cased c = c == 91 || c == 92

-- Whether a pattern is compared.
abbrev pub is_compared : Bool → List ℕ → Bool
is_compared folds pattern = nat_le (length pattern) 255 && not (folds && list_any is_cased pattern)

-- More than 255 parts match nothing. Only longer patterns have so many.
abbrev pub matches_parts : Option (List Part) → List ℕ → Bool
matches_parts None text = false
matches_parts (Some parts) text = nat_le (length parts) 255 && is_match parts text

-- A pattern whose names slashes part.
abbrev pub with_names : Bool → Style
with_names folds = record { parts_names = true; folds_case = folds }

-- Whether a text matches a pattern, or nothing if the pattern isn't compared.
abbrev pub compared : Bool → List ℕ → List ℕ → Option Bool
compared folds pattern text = if is_compared folds pattern then Some (matches_parts (styled_parts_of (with_names folds) pattern) text) else None

-- With a slash at its end a pattern matches all that is below.
abbrev pub with_all_below : List ℕ → List ℕ
with_all_below pattern = if ends_in_slash pattern then pattern ++ codes "**" else pattern

-- ---- gitdir

-- A pattern that isn't absolute may begin at any folder.
abbrev pub anywhere : List ℕ → List ℕ
anywhere text = if begins_with 47 text then text else codes "**/" ++ text

-- A pattern of folders: whether letters match in either case, what a path begins with, and the pattern of the rest.
abbrev pub Folders : Type 0
Folders = Bool × (List ℕ × List ℕ)

-- A pattern that begins with `./`.
abbrev pub is_beside : List ℕ → Bool
is_beside text = begins_with 46 text && begins_with 47 (drop 1 text)

-- It is below the folder of the file that has it. The environment has no such folder.
abbrev pub beside : Bool → Option (List ℕ) → List ℕ → Option Folders
beside folds None rest = None
beside folds (Some folder) rest = Some (folds, (folder, with_all_below rest))

abbrev pub folders_of : Bool → List ℕ → Option (List ℕ) → Option Folders
folders_of folds text folder =
    if is_beside text then beside folds folder (drop 1 text) else Some (folds, ([], with_all_below (anywhere text)))

-- A text, in lower case if case doesn't count.
abbrev pub in_case : Bool → List ℕ → List ℕ
in_case folds text = if folds then map to_ascii_lowercase text else text

abbrev pub is_same : Bool → List ℕ → List ℕ → Bool
is_same folds a b = bytes_eq (in_case folds a) (in_case folds b)

abbrev pub begins_so : Bool → List ℕ → List ℕ → Bool
begins_so folds front path = nat_le (length front) (length path) && is_same folds (take (length front) path) front

-- Whether the path of a folder matches.
abbrev pub folder_compared : Folders → List ℕ → Option Bool
folder_compared p path = if begins_so p.0 p.1.0 path then compared p.0 p.1.1 (drop (length p.1.0) path) else Some false
