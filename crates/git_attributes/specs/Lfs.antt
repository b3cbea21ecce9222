-- What git-lfs stores of a file (`filter=lfs`): a pointer to its bytes. Those of a pointer stay.
use Rattle.std.specs.Prelude.{◌≡◌, ℕ, ◌+◌, ◌-◌, ◌*◌, ◌^◌, ◌==◌, ◌&&◌, ◌||◌, not, nat_le, nat_lt, Bool, false, List, [], ◌∷◌, ◌++◌, length, take, drop, filter, codes, decimal, slice_index, Option, Some, None, is_some, if◌then◌else◌}
use Rattle.std.specs.List.{list_all, list_any, prefix_len, suffix_len}
use Rattle.std.specs.Str.{bytes_eq}
use Rattle.hex.specs.Hex.{encode_lower}
use Rattle.sha2.specs.Sha256.{sha256}
use Rattle.git_patterns.specs.Items.{items_of}
use Rattle.git_patterns.specs.Text.{below, first_at}
use Rattle.git_attributes.specs.Files.{line_step}
use Rattle.git_attributes.specs.declared.lfs.Hashed.{Hashed}
use Rattle.git_attributes.specs.declared.pointer.Key.{Key}
use Rattle.git_attributes.specs.declared.pointer.Key.TheVariants.{Version, Oid, Size}

-- There is a value, and it passes a test.
abbrev pub passes : {A : Type 0} → (A → Bool) → Option A → Bool
passes test None = false
passes test (Some x) = test x

-- ---- the values of a pointer

-- The three names of git-lfs's format.
abbrev pub is_version : List ℕ → Bool
is_version value =
    bytes_eq value (codes "https://git-lfs.github.com/spec/v1") || (bytes_eq value (codes "https://hawser.github.com/spec/v1") || bytes_eq value (codes "http://git-media.io/v/2"))

-- A hexadecimal digit, and no capital.
abbrev pub is_hex_digit : ℕ → Bool
is_hex_digit b = (nat_le 48 b && nat_le b 57) || (nat_le 97 b && nat_le b 102)

-- The digits of a SHA-256 digest.
abbrev pub is_digest : List ℕ → Bool
is_digest digits = length digits == 64 && list_all is_hex_digit digits

-- A digest after `sha256:`.
abbrev pub is_oid : List ℕ → Bool
is_oid value = passes is_digest (below (codes "sha256:") value)

-- A decimal digit.
abbrev pub is_digit : ℕ → Bool
is_digit b = nat_le 48 b && nat_le b 57

-- The number of these decimal digits after those of another number.
abbrev pub number_after : ℕ → List ℕ → ℕ
number_after n [] = n
number_after n (d ∷ ds) = number_after (n * 10 + (d - 48)) ds

-- All are decimal digits, and their number after that of others is below a limit.
abbrev pub is_below_after : ℕ → ℕ → List ℕ → Bool
is_below_after limit n digits = list_all is_digit digits && nat_lt (number_after n digits) limit

-- One or more decimal digits, of a number below a limit.
abbrev pub is_below : ℕ → List ℕ → Bool
is_below limit digits = not (length digits == 0) && is_below_after limit 0 digits

-- A number from 0 to 2^63 - 1, which may have a sign. So `-0` is one.
abbrev pub is_size : List ℕ → Bool
is_size [] = false
is_size (b ∷ rest) = if b == 45 then is_below 1 rest else (if b == 43 then is_below (2 ^ 63) rest else is_below (2 ^ 63) (b ∷ rest))

-- ---- the lines of a pointer

-- A key and the space after it.
abbrev pub key_text : Key → List ℕ
key_text Version = codes "version "
key_text Oid = codes "oid "
key_text Size = codes "size "

-- The value is one of this key's.
abbrev pub is_value : Key → List ℕ → Bool
is_value Version value = is_version value
is_value Oid value = is_oid value
is_value Size value = is_size value

-- The line has this key.
abbrev pub has_key : Key → List ℕ → Bool
has_key key line = is_some (below (key_text key) line)

-- The line has this key, and a value of it.
abbrev pub has_value : Key → List ℕ → Bool
has_value key line = passes (is_value key) (below (key_text key) line)

-- A letter, a digit or an underscore.
abbrev pub is_letter : ℕ → Bool
is_letter b = is_digit b || (nat_le 65 b && nat_le b 90) || (nat_le 97 b && nat_le b 122) || b == 95

-- `ext-`, a digit, `-`, and a letter, digit or underscore. More may follow.
abbrev pub is_extension_key : List ℕ → Bool
is_extension_key key = bytes_eq (take 4 key) (codes "ext-") && is_digit (slice_index key 4) && slice_index key 5 == 45 && is_letter (slice_index key 6)

-- The key of an extension comes before this position, and an oid after it.
abbrev pub is_parted : List ℕ → ℕ → Bool
is_parted line at = is_extension_key (take at line) && is_oid (drop (at + 1) line)

-- The line of an extension has its key and an oid, which the first space parts.
abbrev pub is_extension : List ℕ → Bool
is_extension line = passes (is_parted line) (first_at 32 line)

-- Both lines begin with the same six bytes: those of an extension, up to its digit and the `-` after that.
abbrev pub has_same_digit : List ℕ → List ℕ → Bool
has_same_digit line other = bytes_eq (take 6 other) (take 6 line)

-- The keys that are to come after a line, by the lines after it. It has the first key and a value of that, or it is that of an
-- extension whose digit no later line has. None if it is neither.
abbrev pub keys_after : List Key → List ℕ → List (List ℕ) → Option (List Key)
keys_after [] line later = None
keys_after (key ∷ keys) line later =
    if has_key key line then (if has_value key line then Some keys else None)
    else (if is_extension line && not (list_any (has_same_digit line) later) then Some (key ∷ keys) else None)

-- The lines are those that come last in a pointer, where these keys are to come.
abbrev pub is_rest : List Key → List (List ℕ) → Bool
is_rest keys [] = length keys == 0
is_rest keys (line ∷ later) = passes (λ more. is_rest more later) (keys_after keys line later)

-- ---- pointers

-- White space of ASCII.
abbrev pub is_space : ℕ → Bool
is_space b = b == 32 || (nat_le 9 b && nat_le b 13)

-- The text without white space at its front.
abbrev pub without_front : List ℕ → List ℕ
without_front text = drop (prefix_len is_space text) text

-- The text without white space at its end.
abbrev pub without_end : List ℕ → List ℕ
without_end text = take (length text - suffix_len is_space text) text

-- A line isn't empty.
abbrev pub is_filled : List ℕ → Bool
is_filled line = not (length line == 0)

-- The lines of a text that aren't empty. A CR before the line feed isn't part of the line.
unfoldable pub lines_of : List ℕ → List (List ℕ)
lines_of text = filter is_filled (items_of line_step (length text) text).0

-- The line that was read, and the lines of the text after it.
abbrev pub listed : Option (List ℕ × List ℕ) → List (List ℕ)
listed None = []
listed (Some x) = x.0 ∷ lines_of x.1

-- The keys of a pointer, in their order.
abbrev pub all_keys : List Key
all_keys = Version ∷ Oid ∷ Size ∷ []

-- No bytes, or fewer than 1,024 whose lines are those of a pointer. White space at both ends doesn't count.
unfoldable pub is_pointer : List ℕ → Bool
is_pointer bytes = length bytes == 0 || (nat_lt (length bytes) 1024 && is_rest all_keys (lines_of (without_end (without_front bytes))))

-- The pointer to a file with this digest and this many bytes.
abbrev pub pointer : List ℕ → ℕ → List ℕ
pointer digest size =
    codes "version https://git-lfs.github.com/spec/v1\noid sha256:" ++ encode_lower digest ++ codes "\nsize " ++ decimal size ++ codes "\n"

-- The bytes that are stored of a file: a pointer to its bytes, but those of a pointer stay.
abbrev pub stored_by_lfs : List ℕ → List ℕ
stored_by_lfs bytes = if is_pointer bytes then bytes else pointer (sha256 bytes) (length bytes)

-- The digest and the number of these bytes, and the first 1,024 of them.
pub record IsHashed (first bytes : List ℕ) (hashed : Hashed) : Type 0 where
  pub digest : hashed.digest ≡ sha256 bytes
  pub len : hashed.len ≡ length bytes
  pub kept : first ≡ take 1024 bytes
