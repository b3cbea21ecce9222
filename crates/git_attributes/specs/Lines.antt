-- The lines of an attribute file (gitattributes(5)).
use Rattle.std.specs.Prelude.{ℕ, ◌&&◌, ◌||◌, not, nat_le, nat_lt, Bool, List, length, take, drop, codes, Option, Some, None, option_map, if◌then◌else◌}
use Rattle.std.specs.Option.{option_and_then}
use Rattle.std.specs.Str.{bytes_eq}
use Rattle.git_patterns.specs.Patterns.{parts_of}
use Rattle.git_patterns.specs.Text.{before, begins_with, ends_in_slash, has_slash, without_slash}
use Rattle.git_patterns.specs.Wildmatch.{Part}
use Rattle.git_attributes.specs.Assignments.{Given, assignments_of, is_name}
use Rattle.git_attributes.specs.Quoted.{unquoted}
use Rattle.git_attributes.specs.Words.{skip_blanks, word_at}

-- The paths that match a pattern get these states. The pattern is that of a file in this folder.
pub record Rule : Type 0 where
  pub folder : List ℕ
  pub by_name : Bool
  pub parts : List Part
  pub given : List Given

-- An attribute with assignments of its own.
pub record Macro : Type 0 where
  pub name : List ℕ
  pub given : List Given

pub data Line : Type 0 where
  RuleLine : Rule → Line
  MacroLine : Macro → Line

-- A pattern without a slash is compared with the last name of a path. One that begins with `!` is left out, and one that ends in a
-- slash matches no file.
abbrev pub pattern_of : List ℕ → Option (Bool × List Part)
pattern_of pattern =
    let text = before 0 pattern in
    if begins_with 33 text || ends_in_slash text then None else option_map (λ parts. (not (has_slash text), parts)) (parts_of (without_slash text))

abbrev pub rule_with : List ℕ → List Given → Bool × List Part → Line
rule_with folder given pattern = RuleLine (record { folder = folder; by_name = pattern.0; parts = pattern.1; given = given })

abbrev pub rule_of : List ℕ → List ℕ → List ℕ → Option Line
rule_of folder pattern text = option_and_then (λ given. option_map (rule_with folder given) (pattern_of pattern)) (assignments_of text)

abbrev pub macro_with : List ℕ → List ℕ → Option Line
macro_with name text = if is_name name then option_map (λ given. MacroLine (record { name = name; given = given })) (assignments_of text) else None

-- The name of a macro is the first word, up to a NUL.
abbrev pub macro_of : List ℕ → List ℕ → Option Line
macro_of name text = option_and_then (λ found. macro_with found.0 text) (word_at (before 0 name))

-- The text after `[attr]`, if a text begins with it and has more.
abbrev pub macro_name : List ℕ → Option (List ℕ)
macro_name text = if bytes_eq (take 6 text) (codes "[attr]") && nat_lt 6 (length text) then Some (drop 6 text) else None

abbrev pub said_by : List ℕ → List ℕ → List ℕ → Option (List ℕ) → Option Line
said_by folder front text None = rule_of folder front text
said_by folder front text (Some name) = macro_of name text

-- A line begins with a pattern, or with `[attr]` and the name of a macro.
abbrev pub line_with_front : List ℕ → List ℕ → List ℕ → Option Line
line_with_front folder front text = said_by folder front text (macro_name front)

abbrev pub plain_line_at : List ℕ → List ℕ → Option Line
plain_line_at folder text = option_and_then (λ found. line_with_front folder found.0 found.1) (word_at text)

abbrev pub by_quotes : List ℕ → List ℕ → Option (List ℕ × List ℕ) → Option Line
by_quotes folder text None = plain_line_at folder text
by_quotes folder text (Some found) = line_with_front folder found.0 found.1

-- A line has a pattern, which may be in quotes, and assignments; or a macro. Comments, empty lines and those of 2,048 bytes or more say
-- nothing. A NUL ends a line.
abbrev pub line_at : List ℕ → List ℕ → Option Line
line_at folder whole =
    let line = before 0 whole in let text = skip_blanks line in
    if begins_with 35 text || nat_le 2048 (length line) then None
    else (if begins_with 34 text then by_quotes folder text (unquoted (drop 1 text)) else plain_line_at folder text)
