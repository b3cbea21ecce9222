-- What the fields of a JSON object state, or None if one has a wrong form: the entry of an object, and the parts of it. A key with
-- a default may be missing, but may not have a wrong form.
use Rattle.std.specs.Prelude.{ℕ, ◌^◌, nat_lt, List, [], ◌∷◌, codes, Option, Some, None, if◌then◌else◌}
use Rattle.std.specs.Int.RustNames.{bit_or}
use Rattle.serde_json.specs.Data.{Data, Items, no_items, item}
use Rattle.serde_json.specs.Find.{as_array, as_number, as_str, as_u64, get}
use Rattle.status_index.specs.declared.id.ObjectId.{ObjectId}
use Rattle.status_index.specs.declared.mode.Mode.{Mode}
use Rattle.status_index.specs.declared.mode.Mode.TheVariants as modes
use Rattle.status_index.specs.declared.stat.Moment.{Moment}
use Rattle.status_index.specs.declared.stat.Stat.{Stat}
use Rattle.status_index.specs.declared.stat.Time.{Time}
use Rattle.status_index.specs.Entries.{IndexEntry}
use Rattle.status_index.specs.FlagBits.{bits_of_stage}
use Rattle.status_format.specs.Reads.{◌>>=◌, needed, or_default}
use Rattle.status_format.specs.Words.{mode_named, flag_named, id_named}

-- A whole number below 2^32, written without a sign, a point and an exponent.
abbrev pub number_in : Data → Option ℕ
number_in d = do
  number ← as_number d
  n ← as_u64 number
  if nat_lt n (2 ^ 32) then Some n else None

-- Exactly two numbers.
abbrev pub two_in : Items → Option (ℕ × ℕ)
two_in no_items = None
two_in (item a no_items) = None
two_in (item a (item b no_items)) = do
  first ← number_in a
  second ← number_in b
  Some (first, second)
two_in (item a (item b (item c rest))) = None

-- A time: a list of seconds and nanoseconds.
abbrev pub time_in : Data → Option Time
time_in d = do
  items ← as_array d
  two ← two_in items
  Some (record { secs = two.0; nsecs = two.1 })

-- The moment of such a list.
abbrev pub stamp_in : Data → Option Moment
stamp_in d = do
  time ← time_in d
  Some (record { secs = time.secs; nsecs = time.nsecs })

-- The epoch, the default of a time.
abbrev pub first_time : Time
first_time = record { secs = 0; nsecs = 0 }

-- The stage of a conflict: a number below 4.
abbrev pub stage_in : Data → Option ℕ
stage_in d = do
  n ← number_in d
  if nat_lt n 4 then Some n else None

-- These bits and those of the flags that are listed.
abbrev pub flags_from : ℕ → Items → Option ℕ
flags_from bits no_items = Some bits
flags_from bits (item d rest) = do
  word ← as_str d
  bit ← flag_named word
  flags_from (bit_or bits bit) rest

abbrev pub flags_in : ℕ → Data → Option ℕ
flags_in bits d = as_array d >>= flags_from bits

abbrev pub mode_in : Data → Option Mode
mode_in d = as_str d >>= mode_named

abbrev pub id_in : Data → Option ObjectId
id_in d = as_str d >>= id_named

-- The stat of a file of this size: times and numbers are 0 by default, and the ctime is the mtime.
unfoldable pub stat_in : ℕ → Data → Option Stat
stat_in size d = do
  mtime ← or_default time_in first_time (get (codes "mtime") d)
  ctime ← or_default time_in mtime (get (codes "ctime") d)
  dev ← or_default number_in 0 (get (codes "dev") d)
  ino ← or_default number_in 0 (get (codes "ino") d)
  uid ← or_default number_in 0 (get (codes "uid") d)
  gid ← or_default number_in 0 (get (codes "gid") d)
  Some (record { mtime = mtime; ctime = ctime; dev = dev; ino = ino; uid = uid; gid = gid; size = size })

-- The entry of an object. Other keys are ignored.
unfoldable pub entry_in : Data → Option IndexEntry
entry_in d = do
  path ← needed as_str (get (codes "path") d)
  id ← needed id_in (get (codes "id") d)
  stage ← or_default stage_in 0 (get (codes "stage") d)
  bits ← or_default (flags_in (bits_of_stage stage)) (bits_of_stage stage) (get (codes "flags") d)
  mode ← or_default mode_in modes.File (get (codes "mode") d)
  size ← or_default number_in 0 (get (codes "size") d)
  stat ← stat_in size d
  Some (record { path = path; stat = stat; id = id; flags = record { 0 = bits }; mode = mode })

-- What each item of a list states, if each has the form.
abbrev pub each : {A : Type 0} → (Data → Option A) → Items → Option (List A)
each read no_items = Some []
each read (item d rest) = do
  x ← read d
  xs ← each read rest
  Some (x ∷ xs)

-- The entries of a list.
abbrev pub entries_in : Data → Option (List IndexEntry)
entries_in d = as_array d >>= each entry_in
