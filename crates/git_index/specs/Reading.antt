-- How an index file is read: its parts in the order of the file, or the fault that a reader meets first.
use Rattle.std.specs.Prelude.{◌≡◌, ℕ, ◌+◌, ◌-◌, ◌*◌, ◌/◌, ◌%◌, nat_lt, ◌==◌, ◌&&◌, not, Bool, List, [], ◌∷◌, length, take, drop, replicate, position, Option, Some, None, Result, Ok, Err, if◌then◌else◌}
use Rattle.std.specs.Int.{w16, w32, from_be_bytes}
use Rattle.std.specs.Str.{bytes_eq}
use Rattle.status_index.specs.declared.stat.Stat.{Stat}
use Rattle.status_index.specs.declared.mode.Mode.{Mode}
use Rattle.status_index.specs.declared.id.ObjectId.{ObjectId}
use Rattle.status_index.specs.declared.id.ObjectId.TheVariants.{Sha1 as Sha1Id, Sha256 as Sha256Id}
use Rattle.status_index.specs.declared.id.HashKind.{HashKind}
use Rattle.status_index.specs.declared.id.HashKind.TheVariants.{Sha1, Sha256}
use Rattle.status_index.specs.Mode.{mode_from_bits}
use Rattle.git_index.specs.declared.fault.Fault.{Fault}
use Rattle.git_index.specs.declared.fault.Fault.TheVariants.{Truncated, BadSignature, UnknownVersion, BadMode, BadFlags, BadPadding, LongStrip, Required}
use Rattle.git_index.specs.Numbers.{two_bytes, three_bytes, four_bytes}
use Rattle.git_index.specs.RawEntry.{RawEntry, id_len, padding_len}
use Rattle.git_index.specs.File.{is_known, is_version}

infixl 10 ◌>>=◌
abbrev pub ◌>>=◌ : {A B : Type 0} → Result A Fault → (A → Result B Fault) → Result B Fault
(Ok x) >>= f = f x
(Err e) >>= f = Err e

-- A function's result, seen by view, is the result of reading.
abbrev pub Reads : {X Y : Type 0} → (X → Y) → Result X Fault → Result Y Fault → Type 0
Reads view (Ok x) read = read ≡ Ok (view x)
Reads view (Err e) read = read ≡ Err e

-- A field is a value and the bytes after it.
-- The first bytes, and those after them.
abbrev pub taken_at : ℕ → List ℕ → Result (List ℕ × List ℕ) Fault
taken_at n bytes = if nat_lt (length bytes) n then Err Truncated else Ok (take n bytes, drop n bytes)

unfoldable pub u16_at : List ℕ → Result (ℕ × List ℕ) Fault
u16_at bytes = if nat_lt (length bytes) 2 then Err Truncated else Ok (from_be_bytes w16 (take 2 bytes), drop 2 bytes)

unfoldable pub u32_at : List ℕ → Result (ℕ × List ℕ) Fault
u32_at bytes = if nat_lt (length bytes) 4 then Err Truncated else Ok (from_be_bytes w32 (take 4 bytes), drop 4 bytes)

unfoldable pub byte_at : List ℕ → Result (ℕ × List ℕ) Fault
byte_at [] = Err Truncated
byte_at (b ∷ bs) = Ok (b, bs)

-- A number of variable width: a byte from 0x80 on isn't the last one. Four bytes are the most.
abbrev pub fourth_at : ℕ × List ℕ → ℕ → ℕ → ℕ → Result (ℕ × List ℕ) Fault
fourth_at d a b c = if nat_lt d.0 0x80 then Ok (four_bytes + (a - 0x80) * 0x200000 + (b - 0x80) * 0x4000 + (c - 0x80) * 0x80 + d.0, d.1) else Err LongStrip

abbrev pub third_at : ℕ × List ℕ → ℕ → ℕ → Result (ℕ × List ℕ) Fault
third_at c a b = if nat_lt c.0 0x80 then Ok (three_bytes + (a - 0x80) * 0x4000 + (b - 0x80) * 0x80 + c.0, c.1) else byte_at c.1 >>= λ d. fourth_at d a b c.0

abbrev pub second_at : ℕ × List ℕ → ℕ → Result (ℕ × List ℕ) Fault
second_at b a = if nat_lt b.0 0x80 then Ok (two_bytes + (a - 0x80) * 0x80 + b.0, b.1) else byte_at b.1 >>= λ c. third_at c a b.0

unfoldable pub width_at : List ℕ → Result (ℕ × List ℕ) Fault
width_at bytes = byte_at bytes >>= λ a. if nat_lt a.0 0x80 then Ok a else byte_at a.1 >>= λ b. second_at b a.0

abbrev pub some_mode : Option Mode → List ℕ → Result (Mode × List ℕ) Fault
some_mode None rest = Err BadMode
some_mode (Some mode) rest = Ok (mode, rest)

unfoldable pub mode_at : List ℕ → Result (Mode × List ℕ) Fault
mode_at bytes = do
  bits ← u32_at bytes
  some_mode (mode_from_bits bits.0) bits.1

-- One field after the other.
abbrev pub both : {A B : Type 0} → (List ℕ → Result (A × List ℕ) Fault) → (List ℕ → Result (B × List ℕ) Fault) → List ℕ → Result ((A × B) × List ℕ) Fault
both f g bytes = f bytes >>= λ a. g a.1 >>= λ b. Ok ((a.0, b.0), b.1)

-- Ctime, mtime, device, inode, mode, owner, group and size.
abbrev pub Numbers : Type 0
Numbers = ℕ × (ℕ × (ℕ × (ℕ × (ℕ × (ℕ × (Mode × (ℕ × (ℕ × ℕ))))))))

abbrev pub numbers_at : List ℕ → Result (Numbers × List ℕ) Fault
numbers_at = both u32_at (both u32_at (both u32_at (both u32_at (both u32_at (both u32_at (both mode_at (both u32_at (both u32_at u32_at))))))))

abbrev pub stat_of : Numbers → Stat × Mode
stat_of n =
    let m = n.1.1 in let o = m.1.1 in let p = o.1 in (
      record {
        mtime = record { secs = m.0; nsecs = m.1.0 };
        ctime = record { secs = n.0; nsecs = n.1.0 };
        dev = o.0;
        ino = p.0;
        uid = p.1.1.0;
        gid = p.1.1.1.0;
        size = p.1.1.1.1;
      },
      p.1.0,
    )

unfoldable pub fixed_at : List ℕ → Result ((Stat × Mode) × List ℕ) Fault
fixed_at bytes = numbers_at bytes >>= λ n. Ok (stat_of n.0, n.1)

abbrev pub id_of : HashKind → List ℕ → ObjectId
id_of Sha1 bytes = Sha1Id bytes
id_of Sha256 bytes = Sha256Id bytes

unfoldable pub id_at : HashKind → List ℕ → Result (ObjectId × List ℕ) Fault
id_at kind bytes = if nat_lt (length bytes) (id_len kind) then Err Truncated else Ok (id_of kind (take (id_len kind) bytes), drop (id_len kind) bytes)

-- The flags of the two words.
abbrev pub flags_of : ℕ → ℕ → ℕ
flags_of word more = word / 0x1000 % 4 * 0x1000 + word / 0x8000 % 2 * 0x10 + more / 0x2000 % 2 * 0x8 + more / 0x4000 % 2 * 0x2

-- Whether the second word has a flag, and no bit that is no flag.
abbrev pub is_extended_word : ℕ → Bool
is_extended_word more = not (more == 0) && nat_lt more 0x8000 && more % 0x2000 == 0

-- The flags, the length that they state, and how many bytes they take.
abbrev pub more_at : ℕ → ℕ × List ℕ → Result ((ℕ × ℕ × ℕ) × List ℕ) Fault
more_at word more =
    if is_extended_word more.0 then Ok ((flags_of word more.0, word % 0x1000, 4), more.1) else Err BadFlags

abbrev pub word_flags : ℕ → ℕ × List ℕ → Result ((ℕ × ℕ × ℕ) × List ℕ) Fault
word_flags version word =
    if word.0 / 0x4000 % 2 == 0 then Ok ((flags_of word.0 0, word.0 % 0x1000, 2), word.1)
    else (if version == 2 then Err BadFlags else u16_at word.1 >>= more_at word.0)

unfoldable pub flags_at : ℕ → List ℕ → Result ((ℕ × ℕ × ℕ) × List ℕ) Fault
flags_at version bytes = u16_at bytes >>= word_flags version

abbrev pub is_nul : ℕ → Bool
is_nul b = b == 0

abbrev pub padded : List ℕ → ℕ → ℕ → Result (List ℕ × List ℕ) Fault
padded bytes n pad =
    if nat_lt (length (drop n bytes)) pad then Err Truncated
    else (if bytes_eq (take pad (drop n bytes)) (replicate pad 0) then Ok (take n bytes, drop pad (drop n bytes)) else Err BadPadding)

abbrev pub named : List ℕ → ℕ → Option ℕ → Result (List ℕ × List ℕ) Fault
named bytes before None = Err Truncated
named bytes before (Some n) = padded bytes n (padding_len (before + n))

-- A name ends before the first zero byte, and is padded.
unfoldable pub padded_at : ℕ → List ℕ → Result (List ℕ × List ℕ) Fault
padded_at before bytes = named bytes before (position is_nul bytes)

abbrev pub ended : List ℕ → Option ℕ → Result (List ℕ × List ℕ) Fault
ended bytes None = Err Truncated
ended bytes (Some n) = Ok (take n bytes, drop (n + 1) bytes)

-- A name ends before the first zero byte.
unfoldable pub ended_at : List ℕ → Result (List ℕ × List ℕ) Fault
ended_at bytes = ended bytes (position is_nul bytes)

-- The bytes to strip, and a name.
unfoldable pub stripped_at : List ℕ → Result ((ℕ × List ℕ) × List ℕ) Fault
stripped_at = both width_at ended_at

abbrev pub unstripped : List ℕ × List ℕ → (ℕ × List ℕ) × List ℕ
unstripped name = ((0, name.0), name.1)

unfoldable pub name_at : ℕ → ℕ → List ℕ → Result ((ℕ × List ℕ) × List ℕ) Fault
name_at version before bytes =
    if version == 4 then stripped_at bytes else padded_at before bytes >>= λ name. Ok (unstripped name)

unfoldable pub raw_at : HashKind → ℕ → List ℕ → Result (RawEntry × List ℕ) Fault
raw_at kind version bytes = do
  fixed ← fixed_at bytes
  id ← id_at kind fixed.1
  flags ← flags_at version id.1
  name ← name_at version (40 + id_len kind + flags.0.2) flags.1
  Ok (record { stat = fixed.0.0; mode = fixed.0.1; id = id.0; flags = flags.0.0; stated = flags.0.1; strip = name.0.0; name = name.0.1 }, name.1)

-- A field that has to pass a test.
abbrev pub checked : {A : Type 0} → (A → Bool) → Fault → (List ℕ → Result (A × List ℕ) Fault) → List ℕ → Result (A × List ℕ) Fault
checked test fault f bytes = f bytes >>= λ x. if test x.0 then Ok x else Err fault

-- `DIRC`, as a number.
abbrev pub signature : ℕ
signature = 0x44495243

-- The signature, the version, and the number of entries.
unfoldable pub header_at : List ℕ → Result ((ℕ × (ℕ × ℕ)) × List ℕ) Fault
header_at = both (checked (λ n. n == signature) BadSignature u32_at) (both (checked is_version UnknownVersion u32_at) u32_at)

unfoldable pub extension_name_at : List ℕ → Result (List ℕ × List ℕ) Fault
extension_name_at bytes = if nat_lt (length bytes) 4 then Err Truncated else Ok (take 4 bytes, drop 4 bytes)

unfoldable pub content_at : List ℕ → Result (List ℕ × List ℕ) Fault
content_at bytes = do
  len ← u32_at bytes
  if nat_lt (length len.1) len.0 then Err Truncated else Ok (take len.0 len.1, drop len.0 len.1)

unfoldable pub extension_at : List ℕ → Result ((List ℕ × List ℕ) × List ℕ) Fault
extension_at = both (checked is_known Required extension_name_at) content_at
