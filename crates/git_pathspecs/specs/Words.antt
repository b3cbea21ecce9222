-- How the magic words of an element of a pathspec are read, as in `:(top,icase)x` and `:!x`.
use Rattle.std.specs.Prelude.{ℕ, ◌+◌, ◌==◌, ◌||◌, Bool, true, false, List, [], ◌∷◌, take, drop, codes, Option, Some, None, Result, Ok, Err, if◌then◌else◌}
use Rattle.std.specs.List.{list_any, slice_split}
use Rattle.std.specs.Str.{bytes_eq}
use Rattle.git_patterns.specs.Text.{begins_with, first_at}
use Rattle.git_patterns.specs.Wildmatch.{is_empty}
use Rattle.git_pathspecs.specs.declared.magic.Magic.{Magic}
use Rattle.git_pathspecs.specs.declared.magic.MagicFault.{MagicFault}
use Rattle.git_pathspecs.specs.declared.magic.MagicFault.TheVariants.{Unknown, Unclosed}

-- No word and no sign is there.
abbrev pub no_magic : Magic
no_magic = record { top = false; excludes = false; glob = false; literal = false; icase = false }

-- After a fault nothing more is read.
abbrev pub result_map : {A B : Type 0} → (A → B) → Result A MagicFault → Result B MagicFault
result_map f (Ok x) = Ok (f x)
result_map f (Err fault) = Err fault

abbrev pub result_and_then : {A B : Type 0} → (A → Result B MagicFault) → Result A MagicFault → Result B MagicFault
result_and_then f (Ok x) = f x
result_and_then f (Err fault) = Err fault

-- ---- a list of words

-- The magic with a word more. Nothing between two commas is no word, and any other word isn't known or isn't supported.
abbrev pub with_word : Magic → List ℕ → Result Magic MagicFault
with_word magic word =
    if is_empty word then Ok magic
    else (if bytes_eq word (codes "top") then Ok (record magic { top = true })
    else (if bytes_eq word (codes "exclude") then Ok (record magic { excludes = true })
    else (if bytes_eq word (codes "glob") then Ok (record magic { glob = true })
    else (if bytes_eq word (codes "literal") then Ok (record magic { literal = true })
    else (if bytes_eq word (codes "icase") then Ok (record magic { icase = true })
    else Err Unknown)))))

-- The magic with each of these words, from the first one on.
abbrev pub with_words : Magic → List (List ℕ) → Result Magic MagicFault
with_words magic [] = Ok magic
with_words magic (word ∷ words) = result_and_then (λ more. with_words more words) (with_word magic word)

-- The words of a list are what is between its commas.
abbrev pub words_of : List ℕ → List (List ℕ)
words_of text = slice_split (λ b. b == 44) text

abbrev pub listed_to : Option ℕ → List ℕ → Result (Magic × List ℕ) MagicFault
listed_to None text = Err Unclosed
listed_to (Some end) text = result_map (λ magic. (magic, drop (end + 1) text)) (with_words no_magic (words_of (take end text)))

-- The words are those before the first `)`, and the element's text is what comes after it.
abbrev pub listed : List ℕ → Result (Magic × List ℕ) MagicFault
listed text = listed_to (first_at 41 text) text

-- ---- signs

-- Git keeps these signs for other magic.
abbrev pub is_reserved : ℕ → Bool
is_reserved sign = list_any (λ b. b == sign) (codes "\"#%&',-;<=>@_`~")

-- The magic with the signs that come first, and the element's text after them: `/` is `top`, and `!` and `^` are `exclude`.
-- A colon ends the signs and isn't part of the text. Any other byte that isn't a reserved sign begins the text.
abbrev pub signs_of : Magic → List ℕ → Result (Magic × List ℕ) MagicFault
signs_of magic [] = Ok (magic, [])
signs_of magic (sign ∷ rest) =
    if sign == 47 then signs_of (record magic { top = true }) rest
    else (if sign == 33 || sign == 94 then signs_of (record magic { excludes = true }) rest
    else (if sign == 58 then Ok (magic, rest)
    else (if is_reserved sign then Err Unknown
    else Ok (magic, sign ∷ rest))))

-- ---- an element

-- After the colon a `(` begins a list of words. Without it there are signs.
abbrev pub after_colon : List ℕ → Result (Magic × List ℕ) MagicFault
after_colon text = if begins_with 40 text then listed (drop 1 text) else signs_of no_magic text

-- The magic of an element, and its text. Without a colon that comes first, there is no magic and all of it is text.
abbrev pub magic_of : List ℕ → Result (Magic × List ℕ) MagicFault
magic_of word = if begins_with 58 word then after_colon (drop 1 word) else Ok (no_magic, word)
