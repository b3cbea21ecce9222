-- An entry as the file has it, and its bytes (gitformat-index, versions 2, 3 and 4).
use Rattle.std.specs.Prelude.{◌≡◌, ◌≢◌, ℕ, ◌+◌, ◌-◌, ◌*◌, ◌/◌, ◌%◌, ◌^◌, ◌<◌, ◌==◌, min, Bool, false, not, List, [], ◌∷◌, ◌++◌, length, replicate, All, if◌then◌else◌}
use Rattle.status_index.specs.declared.stat.Stat.{Stat}
use Rattle.status_index.specs.declared.mode.Mode.{Mode}
use Rattle.status_index.specs.declared.id.HashKind.{HashKind}
use Rattle.status_index.specs.declared.id.HashKind.TheVariants.{Sha1, Sha256}
use Rattle.status_index.specs.declared.id.ObjectId.{ObjectId}
use Rattle.status_index.specs.BlobId.{id_kind, id_bytes}
use Rattle.status_index.specs.FlagBits.{stage_of_bits}
use Rattle.status_index.specs.Mode.{mode_bits}
use Rattle.git_index.specs.Numbers.{u16_bytes, u32_bytes, width_bytes, too_many}

-- An entry as the file has it. `stated` is the path's length as the flags state it. In version 4 the path is that of the entry
-- before, without its last `strip` bytes, followed by the name; in the others the name is the path, and `strip` is 0.
pub record RawEntry : Type 0 where
  pub stat : Stat
  pub mode : Mode
  pub id : ObjectId
  pub flags : ℕ
  pub stated : ℕ
  pub strip : ℕ
  pub name : List ℕ

-- Ctime, mtime, device, inode, mode, owner, group and size.
unfoldable pub fixed_bytes : Stat → Mode → List ℕ
fixed_bytes s mode =
    u32_bytes s.ctime.secs ++ (u32_bytes s.ctime.nsecs ++ (u32_bytes s.mtime.secs ++ (u32_bytes s.mtime.nsecs
    ++ (u32_bytes s.dev ++ (u32_bytes s.ino ++ (u32_bytes (mode_bits mode) ++ (u32_bytes s.uid ++ (u32_bytes s.gid ++ u32_bytes s.size))))))))

pub record FixedFits (s : Stat) : Type 0 where
  pub ctime : (s.ctime.secs < 2 ^ 32) × (s.ctime.nsecs < 2 ^ 32)
  pub mtime : (s.mtime.secs < 2 ^ 32) × (s.mtime.nsecs < 2 ^ 32)
  pub dev : s.dev < 2 ^ 32
  pub ino : s.ino < 2 ^ 32
  pub uid : s.uid < 2 ^ 32
  pub gid : s.gid < 2 ^ 32
  pub size : s.size < 2 ^ 32

-- The number of bytes of an id.
abbrev pub id_len : HashKind → ℕ
id_len Sha1 = 20
id_len Sha256 = 32

-- Of the flags a file keeps four: assume-valid, skip-worktree, intent-to-add, and the stage.
abbrev pub assume_valid : ℕ → ℕ
assume_valid flags = flags / 0x10 % 2

abbrev pub skip_worktree : ℕ → ℕ
skip_worktree flags = flags / 0x2 % 2

abbrev pub intent_to_add : ℕ → ℕ
intent_to_add flags = flags / 0x8 % 2

abbrev pub kept_flags : ℕ → ℕ
kept_flags flags = stage_of_bits flags * 0x1000 + assume_valid flags * 0x10 + intent_to_add flags * 0x8 + skip_worktree flags * 0x2

-- The second word of the flags is there only if it isn't 0.
abbrev pub extended_word : ℕ → ℕ
extended_word flags = skip_worktree flags * 0x4000 + intent_to_add flags * 0x2000

abbrev pub is_extended : ℕ → Bool
is_extended flags = not (extended_word flags == 0)

-- The length of a path, or 0xFFF if it is greater.
abbrev pub short_len : ℕ → ℕ
short_len n = min n 0xFFF

abbrev pub first_word : ℕ → ℕ → ℕ
first_word flags stated = assume_valid flags * 0x8000 + (if is_extended flags then 1 else 0) * 0x4000 + stage_of_bits flags * 0x1000 + stated

unfoldable pub flags_bytes : ℕ → ℕ → List ℕ
flags_bytes flags stated = u16_bytes (first_word flags stated) ++ (if is_extended flags then u16_bytes (extended_word flags) else [])

-- 1 to 8 zero bytes follow a path in versions 2 and 3, up to a multiple of 8 bytes in the entry.
abbrev pub padding_len : ℕ → ℕ
padding_len n = 8 - n % 8

unfoldable pub padded_bytes : ℕ → List ℕ → List ℕ
padded_bytes before path = path ++ replicate (padding_len (before + length path)) 0

-- In version 4 the name has the number of bytes to strip before it, and one zero byte after it.
unfoldable pub stripped_bytes : ℕ → List ℕ → List ℕ
stripped_bytes strip name = width_bytes strip ++ (name ++ 0 ∷ [])

abbrev pub name_bytes : ℕ → ℕ → ℕ → List ℕ → List ℕ
name_bytes version before strip name = if version == 4 then stripped_bytes strip name else padded_bytes before name

-- The number of bytes of an entry before its name.
abbrev pub before_name : HashKind → ℕ → ℕ
before_name kind flags = 40 + id_len kind + (if is_extended flags then 4 else 2)

unfoldable pub raw_bytes : HashKind → ℕ → RawEntry → List ℕ
raw_bytes kind version r =
    fixed_bytes r.stat r.mode ++ (id_bytes r.id ++ (flags_bytes r.flags r.stated ++ name_bytes version (before_name kind r.flags) r.strip r.name))

-- Only versions 3 and 4 have the second word of flags.
abbrev pub FlagsFit : ℕ → ℕ → Type 0
FlagsFit version flags = (flags ≡ kept_flags flags) × (version ≡ 2 → is_extended flags ≡ false)

abbrev pub HasNoZero : List ℕ → Type 0
HasNoZero name = All (λ b. b ≢ 0) name

-- Only version 4 strips bytes of the path before, at most as many as four bytes can state.
abbrev pub StripFits : ℕ → ℕ → Type 0
StripFits version strip = (strip < too_many) × ((version ≡ 4 → ⊥) → strip ≡ 0)

-- An entry that a file of this kind and version can have.
pub record RawFits (kind : HashKind) (version : ℕ) (r : RawEntry) : Type 0 where
  pub stat : FixedFits r.stat
  pub id_kind : id_kind r.id ≡ kind
  pub id_len : length (id_bytes r.id) ≡ id_len kind
  pub flags : FlagsFit version r.flags
  pub stated : r.stated < 0x1000
  pub strip : StripFits version r.strip
  pub name : HasNoZero r.name
