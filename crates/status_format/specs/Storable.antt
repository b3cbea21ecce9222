-- Which entries can be stored as JSON, what storing one returns, and what is read back.
use Rattle.std.specs.Prelude.{◌≡◌, ℕ, ◌+◌, ◌*◌, ◌%◌, ◌<◌, ◌^◌, length, Result, Ok, Err, ⊤}
use Rattle.std.specs.Str.{IsUtf8}
use Rattle.hex.specs.Hex.{IsBytes}
use Rattle.serde_json.specs.View.{view}
use Rattle.serde_json.specs.declared.value.Value.{Value}
use Rattle.status_index.specs.declared.id.ObjectId.{ObjectId}
use Rattle.status_index.specs.declared.id.ObjectId.TheVariants.{Sha1, Sha256}
use Rattle.status_index.specs.declared.stat.Stat.{Stat}
use Rattle.status_index.specs.declared.stat.Time.{Time}
use Rattle.status_index.specs.Entries.{IndexEntry}
use Rattle.status_index.specs.FlagBits.{stage_of_bits}
use Rattle.status_format.specs.StoredEntry.{stored_entry}
use Rattle.status_format.specs.declared.read.FieldError.{FieldError}
use Rattle.status_format.specs.declared.read.FieldError.TheVariants.{Form, Memory}

-- A number that has 32 bits.
abbrev pub Fits32 : ℕ → Type 0
Fits32 n = n < 2 ^ 32

pub record FitsTime (time : Time) : Type 0 where
  pub secs : Fits32 time.secs
  pub nsecs : Fits32 time.nsecs

pub record FitsStat (stat : Stat) : Type 0 where
  pub mtime : FitsTime stat.mtime
  pub ctime : FitsTime stat.ctime
  pub dev : Fits32 stat.dev
  pub ino : Fits32 stat.ino
  pub uid : Fits32 stat.uid
  pub gid : Fits32 stat.gid
  pub size : Fits32 stat.size

-- A digest has the number of bytes of its kind.
abbrev pub FitsId : ObjectId → Type 0
FitsId (Sha1 digest) = (length digest ≡ 20) × IsBytes digest
FitsId (Sha256 digest) = (length digest ≡ 32) × IsBytes digest

-- An entry whose path is UTF-8. The other fields hold for every entry in memory.
pub record IsStorable (e : IndexEntry) : Type 0 where
  pub path : IsUtf8 e.path
  pub stat : FitsStat e.stat
  pub id : FitsId e.id

-- An entry's value, or `Form` if its path isn't UTF-8.
abbrev pub IsEntryStored : IndexEntry → Result Value FieldError → Type 0
IsEntryStored e (Ok value) = IsStorable e × (view value ≡ stored_entry e)
IsEntryStored e (Err Form) = IsUtf8 e.path → ⊥
IsEntryStored e (Err Memory) = ⊤

-- The bits that are stored: the two of the stage, and the five lowest, which are those of the flags.
abbrev pub known_bits : ℕ → ℕ
known_bits bits = stage_of_bits bits * 0x1000 + bits % 32

-- An entry that was stored and is read back: the same, with only its known flags.
abbrev pub known_entry : IndexEntry → IndexEntry
known_entry e = record { path = e.path; stat = e.stat; id = e.id; flags = record { 0 = known_bits e.flags.0 }; mode = e.mode }

-- There are no other bits.
abbrev pub HasKnownBits : ℕ → Type 0
HasKnownBits bits = bits ≡ known_bits bits
