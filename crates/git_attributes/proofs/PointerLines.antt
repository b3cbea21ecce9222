-- The lines of a pointer, one after the other.
use Rattle.std.proofs.Common.{◌≡◌, ◌∙◌, ◌==◌, ◌<◌, ◌≤◌, ◌&&◌, ◌*◌, ◌+◌, ◌-◌, nat_lt, not, cond, Bool, true, false, List, [], ◌∷◌, ℕ, length, Some, None, refl, sym, ap, arith}
use Rattle.std.proofs.lemmas.Bool.Decides.{nat_tests}
use Rattle.std.specs.List.{filter, list_all}
use Rattle.git_patterns.proofs.Items.{all_end, all_more, shorter}
use Rattle.git_attributes.specs.Files.{line_step}
use Rattle.git_attributes.specs.Lfs.{is_below, is_below_after, is_digit, is_filled, lines_of, number_after}
use Rattle.git_attributes.proofs.Leaving.{line_leaves}

pub lines_end : (text : List ℕ) → line_step text ≡ None → lines_of text ≡ []
unfolding lines_of
lines_end text e = ap (λ (r : List (List ℕ) × List ℕ). filter is_filled r.0) (all_end length line_step line_leaves text e)

lines_step : (text line rest : List ℕ) → line_step text ≡ Some (line, rest) → lines_of text ≡ cond (is_filled line) (line ∷ lines_of rest) (lines_of rest)
unfolding lines_of
lines_step text line rest e = ap (λ (r : List (List ℕ) × List ℕ). filter is_filled r.0) (all_more length line_step line_leaves text (line, rest) e)

-- The line leaves a shorter text.
pub line_shorter : (text line rest : List ℕ) → line_step text ≡ Some (line, rest) → length rest < length text
line_shorter text line rest e = shorter length line_step line_leaves text (line, rest) e

pub lines_skip : (text line rest : List ℕ) → line_step text ≡ Some (line, rest) → (length line == 0) ≡ true → lines_of text ≡ lines_of rest
lines_skip text line rest e empty = lines_step text line rest e ∙ ap (λ (v : Bool). cond (not v) (line ∷ lines_of rest) (lines_of rest)) empty

pub lines_more : (text line rest : List ℕ) → line_step text ≡ Some (line, rest) → (length line == 0) ≡ false → lines_of text ≡ line ∷ lines_of rest
lines_more text line rest e filled = lines_step text line rest e ∙ ap (λ (v : Bool). cond (not v) (line ∷ lines_of rest) (lines_of rest)) filled

-- ---- numbers

and_false : (b : Bool) → (b && false) ≡ false
and_false true = refl
and_false false = refl

-- More digits make no smaller number.
grows : (n : ℕ) (digits : List ℕ) → n ≤ number_after n digits
grows n [] = omega arith
grows n (d ∷ ds) = omega (arith, grows (n * 10 + (d - 48)) ds)

too_great : (limit n : ℕ) (digits : List ℕ) → limit ≤ n → nat_lt (number_after n digits) limit ≡ false
too_great limit n digits great = let more = grows n digits in let most : limit ≤ number_after n digits = omega (arith, more) in grind (arith, nat_tests)

pub not_below : (limit : ℕ) (digits : List ℕ) → is_below_after limit 0 digits ≡ false → false ≡ is_below limit digits
not_below limit digits none = sym (ap (λ (v : Bool). not (length digits == 0) && v) none ∙ and_false (not (length digits == 0)))

pub great_number : (limit n : ℕ) (rest digits : List ℕ) → is_below_after limit n rest ≡ is_below_after limit 0 digits → limit ≤ n → false ≡ is_below limit digits
great_number limit n rest digits same great =
    not_below limit digits (sym same ∙ (ap (λ (v : Bool). list_all is_digit rest && v) (too_great limit n rest great) ∙ and_false (list_all is_digit rest)))
