-- The rules of an ignore file (gitignore(5)).
use Rattle.std.specs.Prelude.{ℕ, ◌+◌, ◌-◌, ◌==◌, ◌&&◌, ◌||◌, not, Bool, true, false, List, [], ◌∷◌, length, take, drop, Option, Some, None, option_map, if◌then◌else◌}
use Rattle.std.specs.List.{filter_map}
use Rattle.git_patterns.specs.Items.{items_of}
use Rattle.git_patterns.specs.Patterns.{parts_of}
use Rattle.git_patterns.specs.Text.{before, begins_with, ends_in_slash, first_at, has_slash, without_cr, without_mark, without_slash}
use Rattle.git_patterns.specs.Wildmatch.{Part, is_empty}

-- The paths below this folder that match the pattern are excluded, or if the rule is negated included again. It is for folders only, or for
-- all paths. The pattern is compared with the last name of a path, or with the path below the folder.
pub record Rule : Type 0 where
  pub folder : List ℕ
  pub negated : Bool
  pub only_folders : Bool
  pub by_name : Bool
  pub parts : List Part

-- ---- the text of a line

abbrev pub with_byte : Bool → ℕ → List ℕ → List ℕ
with_byte is_escaped b [] = if b == 32 && not is_escaped then [] else b ∷ []
with_byte is_escaped b (c ∷ kept) = b ∷ c ∷ kept

-- A space is kept if a byte after it is kept, or if it is escaped: a backslash is before it that isn't escaped itself. Other bytes are kept.
abbrev pub kept : Bool → List ℕ → List ℕ
kept is_escaped [] = []
kept is_escaped (b ∷ rest) = with_byte is_escaped b (kept (b == 92 && not is_escaped) rest)

-- A line without the spaces at its end. A space after a backslash stays.
abbrev pub trimmed : List ℕ → List ℕ
trimmed line = kept false line

-- A CR at the end of a line isn't part of its text, and neither is a NUL with what is after it.
abbrev pub text_of : List ℕ → List ℕ
text_of line = trimmed (before 0 (without_cr line))

-- ---- the rule of a line

-- A pattern without a slash is compared with the last name of a path, and another one with the path, without its first slash. An empty one
-- makes no rule, and neither does one that no path matches since it is malformed, such as `[` or a backslash at the end.
abbrev pub rule_with : List ℕ → Bool → Bool → List ℕ → Option Rule
rule_with folder negated only_folders pattern =
    let compared = without_slash pattern in
    if is_empty compared then None
    else option_map (λ parts. record { folder = folder; negated = negated; only_folders = only_folders; by_name = not (has_slash pattern); parts = parts }) (parts_of compared)

-- A slash at the end makes a rule for folders only, and isn't part of the pattern.
abbrev pub rule_for : List ℕ → Bool → List ℕ → Option Rule
rule_for folder negated text =
    if ends_in_slash text then rule_with folder negated true (take (length text - 1) text) else rule_with folder negated false text

-- A `!` that comes first negates a rule, and isn't part of the pattern.
abbrev pub rule_of : List ℕ → List ℕ → Option Rule
rule_of folder text = if begins_with 33 text then rule_for folder true (drop 1 text) else rule_for folder false text

-- The rule of a line of a file in this folder. An empty line has none, and neither has a comment, which begins with `#`.
abbrev pub rule_at : List ℕ → List ℕ → Option Rule
rule_at folder line = if is_empty line || begins_with 35 line then None else rule_of folder (text_of line)

-- ---- the rules of a file

abbrev pub split_line : Option ℕ → List ℕ → List ℕ × List ℕ
split_line None text = (text, [])
split_line (Some at) text = (take at text, drop (at + 1) text)

-- The first line, and the text after it.
abbrev pub line_step : List ℕ → Option (List ℕ × List ℕ)
line_step [] = None
line_step (b ∷ rest) = Some (split_line (first_at 10 (b ∷ rest)) (b ∷ rest))

-- The lines of a text. The last one needs no line feed.
abbrev pub lines_of : List ℕ → List (List ℕ)
lines_of text = (items_of line_step (length text) text).0

-- The rules of a file in this folder. A byte order mark that comes first doesn't count.
abbrev pub rules_of : List ℕ → List ℕ → List Rule
rules_of folder bytes = filter_map (rule_at folder) (lines_of (without_mark bytes))
