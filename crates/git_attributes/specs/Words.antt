-- The words of a line of an attributes file, between blanks.
use Rattle.std.specs.Prelude.{ℕ, ◌==◌, ◌||◌, Bool, List, [], ◌∷◌, take, drop, position, Option, Some, None, if◌then◌else◌}
use Rattle.git_patterns.specs.Text.{len_to}

-- Space, tab, LF and CR part words.
abbrev pub is_blank : ℕ → Bool
is_blank b = b == 32 || b == 9 || b == 10 || b == 13

abbrev pub skip_blanks : List ℕ → List ℕ
skip_blanks [] = []
skip_blanks (b ∷ rest) = if is_blank b then skip_blanks rest else (b ∷ rest)

abbrev pub blank_at : List ℕ → Option ℕ
blank_at text = position is_blank text

abbrev pub word_len : List ℕ → ℕ
word_len text = len_to (blank_at text) text

abbrev pub split_word : List ℕ → Option (List ℕ × List ℕ)
split_word [] = None
split_word (b ∷ rest) = let text = b ∷ rest in Some (take (word_len text) text, drop (word_len text) text)

-- The first word, and the text after it.
abbrev pub word_at : List ℕ → Option (List ℕ × List ℕ)
word_at text = split_word (skip_blanks text)
