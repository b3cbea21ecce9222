-- The words that name modes, flags and ids in JSON.
use Rattle.std.specs.Prelude.{ℕ, ◌==◌, List, [], ◌∷◌, ◌++◌, length, codes, Option, Some, None, option_map, if◌then◌else◌}
use Rattle.std.specs.Int.RustNames.{bit_and}
use Rattle.std.specs.Result.{result_ok}
use Rattle.std.specs.Str.{bytes_eq}
use Rattle.hex.specs.Hex.{decode_sized, encode_lower}
use Rattle.status_index.specs.declared.id.ObjectId.{ObjectId}
use Rattle.status_index.specs.declared.id.ObjectId.TheVariants.{Sha1, Sha256}
use Rattle.status_index.specs.declared.mode.Mode.{Mode}
use Rattle.status_index.specs.declared.mode.Mode.TheVariants as modes
use Rattle.status_index.specs.BlobId.{id_bytes}

-- Modes are six octal digits, five flags have words, and ids are hexadecimal.
abbrev pub mode_digits : Mode → List ℕ
mode_digits modes.Dir = codes "040000"
mode_digits modes.File = codes "100644"
mode_digits modes.FileExecutable = codes "100755"
mode_digits modes.Symlink = codes "120000"
mode_digits modes.Commit = codes "160000"

-- The mode that a word names, if any.
abbrev pub mode_named : List ℕ → Option Mode
mode_named word =
    if bytes_eq word (mode_digits modes.Dir) then Some modes.Dir
    else (if bytes_eq word (mode_digits modes.File) then Some modes.File
    else (if bytes_eq word (mode_digits modes.FileExecutable) then Some modes.FileExecutable
    else (if bytes_eq word (mode_digits modes.Symlink) then Some modes.Symlink
    else (if bytes_eq word (mode_digits modes.Commit) then Some modes.Commit
    else None))))

-- The words of the flags, in the order in which they are written, and the bit of each.
abbrev pub flag_table : List (List ℕ × ℕ)
flag_table =
    (codes "uptodate", 0x1) ∷ (codes "skip-worktree", 0x2) ∷ (codes "assume-valid", 0x10)
    ∷ (codes "fsmonitor-valid", 0x4) ∷ (codes "intent-to-add", 0x8) ∷ []

-- The bit of a word in a table, if it is there.
abbrev pub bit_in : List (List ℕ × ℕ) → List ℕ → Option ℕ
bit_in [] word = None
bit_in (row ∷ rows) word = if bytes_eq word row.0 then Some row.1 else bit_in rows word

-- The bit of the flag that a word names, if any.
abbrev pub flag_named : List ℕ → Option ℕ
flag_named word = bit_in flag_table word

-- The word of a row, if its bit is set.
abbrev pub word_in : ℕ → List ℕ × ℕ → List (List ℕ)
word_in bits row = if bit_and bits row.1 == row.1 then row.0 ∷ [] else []

abbrev pub words_in : ℕ → List (List ℕ × ℕ) → List (List ℕ)
words_in bits [] = []
words_in bits (row ∷ rows) = word_in bits row ++ words_in bits rows

-- The words of the flags that are set.
abbrev pub flag_words : ℕ → List (List ℕ)
flag_words bits = words_in bits flag_table

-- The word of an id: its bytes as hexadecimal digits, in lower case.
abbrev pub id_digits : ObjectId → List ℕ
id_digits id = encode_lower (id_bytes id)

-- The id of hexadecimal digits, in either case: a SHA-1 id for 40 digits, a SHA-256 id for 64.
abbrev pub id_named : List ℕ → Option ObjectId
id_named word =
    if length word == 40 then option_map Sha1 (result_ok (decode_sized word 20))
    else (if length word == 64 then option_map Sha256 (result_ok (decode_sized word 32)) else None)
