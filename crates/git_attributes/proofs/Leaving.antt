-- Each reading leaves less than there was.
use Rattle.std.proofs.Common.{◌≡◌, ◌<◌, ◌≤◌, ◌+◌, ◌*◌, ◌==◌, nat_lt, ℕ, Bool, true, false, cond, [], ◌∷◌, length, Option, Some, None, refl, arith}
use Rattle.std.proofs.lemmas.List.{length-drop}
use Rattle.std.specs.List.{position_or_len}
use Rattle.std.specs.Option.{option_and_then, option_map}
use Rattle.git_patterns.specs.Text.{first_at, len_to}
use Rattle.git_patterns.proofs.Items.{Leaves, Shortens, cond_leaves, wider}
use Rattle.git_patterns.proofs.Leaving.{Bytes}
use Rattle.git_attributes.specs.Assignments.{Given, assigned_word, assignment_at, assignment_of}
use Rattle.git_attributes.specs.Files.{line_step, split_line}
use Rattle.git_attributes.specs.Quoted.{escape_at, octal_at, octal_digit, octal_value, quoted_at}
use Rattle.git_attributes.specs.Words.{is_blank, skip_blanks, split_word, word_at, word_len}

-- ---- words

blanks_length : (text : Bytes) → length (skip_blanks text) ≤ length text
blanks_length [] = omega arith
blanks_length (b ∷ rest) = elim (is_blank b) as (λ v. length (cond v (skip_blanks rest) (b ∷ rest)) ≤ length (b ∷ rest)) [
  | true ↦ omega (arith, blanks_length rest)
  | false ↦ omega arith
]

-- A text that begins with a blank, or is empty, has no word there.
abbrev BeginsWord : Bytes → Type 0
BeginsWord [] = Unit {0}
BeginsWord (b ∷ rest) = is_blank b ≡ false

begins_word : (text : Bytes) → BeginsWord (skip_blanks text)
begins_word [] = tt
begins_word (b ∷ rest) = elim (is_blank b) as (λ v. (is_blank b ≡ v) → BeginsWord (cond v (skip_blanks rest) (b ∷ rest))) [
  | true ↦ λ e. begins_word rest
  | false ↦ λ e. e
] refl

word_len_by : (n : ℕ) (text : Bytes) → 0 < n → 0 < length text → 0 < len_to (cond (nat_lt n (length text)) (Some n) None) text
word_len_by n text a b = elim (nat_lt n (length text)) as (λ v. 0 < len_to (cond v (Some n) None) text) [
  | true ↦ a
  | false ↦ b
]

word_is_long : (b : ℕ) (rest : Bytes) → is_blank b ≡ false → 0 < word_len (b ∷ rest)
word_is_long b rest e =
    let n = position_or_len is_blank (b ∷ rest) in
    let one : 0 < n = rw e (omega arith) in
    word_len_by n (b ∷ rest) one (omega arith)

split_leaves : (text : Bytes) → BeginsWord text → Leaves length text (split_word text)
split_leaves [] h = tt
split_leaves (b ∷ rest) h = omega (arith, word_is_long b rest h, length-drop (word_len (b ∷ rest)) (b ∷ rest))

pub word_leaves : Shortens length word_at
word_leaves text = wider length (skip_blanks text) text (word_at text) (split_leaves (skip_blanks text) (begins_word text)) (blanks_length text)

-- ---- assignments

assigned_by : (text rest : Bytes) (o : Option Given) → length rest < length text → Leaves length text (option_map (λ given. (given, rest)) o)
assigned_by text rest None less = tt
assigned_by text rest (Some given) less = less

assigned_leaves : (text : Bytes) (o : Option (Bytes × Bytes)) → Leaves length text o → Leaves length text (option_and_then assigned_word o)
assigned_leaves text None h = tt
assigned_leaves text (Some found) h = assigned_by text found.1 (assignment_of found.0) h

pub assignment_leaves : Shortens length assignment_at
assignment_leaves text = assigned_leaves text (word_at text) (word_leaves text)

-- ---- quotes

octal_value_leaves : (a b c x y z : ℕ) (rest : Bytes) → Leaves length (a ∷ b ∷ c ∷ rest) (octal_value x y z rest)
octal_value_leaves a b c x y z rest = cond_leaves length (a ∷ b ∷ c ∷ rest) (nat_lt 3 x) None (Some (x * 64 + y * 8 + z, rest)) tt (omega arith)

then_leaves : (text : Bytes) (f : ℕ → Option (ℕ × Bytes)) (o : Option ℕ) → ((x : ℕ) → Leaves length text (f x)) → Leaves length text (option_and_then f o)
then_leaves text f None h = tt
then_leaves text f (Some x) h = h x

octal_leaves : Shortens length octal_at
octal_leaves [] = tt
octal_leaves (a ∷ []) = tt
octal_leaves (a ∷ b ∷ []) = tt
octal_leaves (a ∷ b ∷ c ∷ rest) =
    then_leaves (a ∷ b ∷ c ∷ rest) _ (octal_digit a) (λ x. then_leaves (a ∷ b ∷ c ∷ rest) _ (octal_digit b) (λ y. then_leaves (a ∷ b ∷ c ∷ rest) _ (octal_digit c) (λ z. octal_value_leaves a b c x y z rest)))

letter : (b : ℕ) (rest : Bytes) (v : Bool) (value : ℕ) (o : Option (ℕ × Bytes)) → Leaves length (b ∷ rest) o → Leaves length (b ∷ rest) (cond v (Some (value, rest)) o)
letter b rest v value o h = cond_leaves length (b ∷ rest) v (Some (value, rest)) o (omega arith) h

escape_leaves : Shortens length escape_at
escape_leaves [] = tt
escape_leaves (b ∷ rest) =
    letter b rest (b == 97) 7 _ (letter b rest (b == 98) 8 _ (letter b rest (b == 116) 9 _ (letter b rest (b == 110) 10 _ (letter b rest (b == 118) 11 _ (letter b rest (b == 102) 12 _
    (letter b rest (b == 114) 13 _ (letter b rest (b == 34) 34 _ (letter b rest (b == 92) 92 _ (octal_leaves (b ∷ rest))))))))))

pub quoted_leaves : Shortens length quoted_at
quoted_leaves [] = tt
quoted_leaves (b ∷ rest) =
    cond_leaves length (b ∷ rest) (b == 34) None _ tt
    (cond_leaves length (b ∷ rest) (b == 92) (escape_at rest) (Some (b, rest)) (wider length rest (b ∷ rest) (escape_at rest) (escape_leaves rest) (omega arith)) (omega arith))

-- ---- lines

split_line_leaves : (b : ℕ) (rest : Bytes) (o : Option ℕ) → length (split_line o (b ∷ rest)).1 < length (b ∷ rest)
split_line_leaves b rest None = omega arith
split_line_leaves b rest (Some at) = omega (arith, length-drop (at + 1) (b ∷ rest))

pub line_leaves : Shortens length line_step
line_leaves [] = tt
line_leaves (b ∷ rest) = split_line_leaves b rest (first_at 10 (b ∷ rest))
