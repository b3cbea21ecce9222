-- The parts of a text by the position of the first byte between them, and the words of a list read one by one.
use Rattle.std.proofs.Common.{◌≡◌, ◌==◌, ℕ, ◌+◌, Bool, true, false, cond, ltb, List, [], ◌∷◌, length, take, drop, Option, Some, None, Result, Ok, Err, refl, ap, ◌∙◌, arith}
use Rattle.std.specs.List.{position_or_len, slice_split}
use Rattle.std.proofs.lemmas.List.Elements.{All-from_get_or}
use Rattle.std.proofs.lemmas.List.Splits.{slice_split_first, slice_split_none}
use Rattle.std.proofs.lemmas.List.Sums.{fails_before_first}
use Rattle.git_patterns.specs.Text.{first_at}
use Rattle.git_pathspecs.specs.declared.magic.Magic.{Magic}
use Rattle.git_pathspecs.specs.declared.magic.MagicFault.{MagicFault}
use Rattle.git_pathspecs.specs.Words.{result_and_then, with_word, with_words, words_of}

module _ (p : ℕ → Bool) (text : List ℕ) where
  abbrev found_at : Bool → Option ℕ
  found_at is_there = cond is_there (Some (position_or_len p text)) None

  -- Without such a byte the text is the one part.
  parted_none : (is_there : Bool) → ltb (position_or_len p text) (length text) ≡ is_there → found_at is_there ≡ None → slice_split p text ≡ text ∷ []
  parted_none true e none = absurd cc
  parted_none false e none =
      slice_split_none p text (All-from_get_or (λ b. p b ≡ false) text 0 (λ k within. fails_before_first p text k 0 (grind arith)))

  -- The first part ends at the first such byte.
  parted_some : (at : ℕ) (is_there : Bool) → ltb (position_or_len p text) (length text) ≡ is_there → found_at is_there ≡ Some at
      → slice_split p text ≡ take at text ∷ slice_split p (drop (at + 1) text)
  parted_some at true e some =
      let is : position_or_len p text ≡ at = cc in
      slice_split_first p text 0 (grind arith) ∙ ap (λ n. take n text ∷ slice_split p (drop (n + 1) text)) is
  parted_some at false e some = absurd cc

one_word : (r : Result Magic MagicFault) → result_and_then Ok r ≡ r
one_word (Ok magic) = refl
one_word (Err fault) = refl

-- Words without a comma are one word.
pub last_word : (magic : Magic) (text : List ℕ) → first_at 44 text ≡ None → with_words magic (words_of text) ≡ with_word magic text
last_word magic text none = ap (with_words magic) (parted_none (λ b. b == 44) text _ refl none) ∙ one_word (with_word magic text)

-- The first word ends at the first comma, and the other words come after it.
pub first_word : (magic : Magic) (text : List ℕ) (at : ℕ) → first_at 44 text ≡ Some at
    → with_words magic (words_of text) ≡ result_and_then (λ more. with_words more (words_of (drop (at + 1) text))) (with_word magic (take at text))
first_word magic text at some = ap (with_words magic) (parted_some (λ b. b == 44) text at _ refl some)
