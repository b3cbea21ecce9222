-- Moments, limits, objects; a key with a default may be missing, but may not have a wrong form.
use Rattle.std.specs.Prelude.{ℕ, Bool, Option, Some, None, is_some, option_map, if◌then◌else◌}
use Rattle.std.specs.Borrow.{Bor}
use Rattle.serde_json.specs.Data.{Data, object, no_members}
use Rattle.serde_json.specs.Find.{as_null, as_number, as_object}
use Rattle.serde_json.specs.View.{view}
use Rattle.serde_json.specs.declared.value.Value.{Value}
use Rattle.status_index.specs.declared.stat.Moment.{Moment}
use Rattle.status_format.specs.Reading.{number_in, stamp_in}
use Rattle.status_format.specs.Reads.{◌>>=◌}

-- the value at a reference, if there is one
abbrev pub value_at : Option (Bor Value) → Option Data
value_at value = option_map (λ v. view v.now) value

-- so many seconds since the epoch
abbrev pub seconds_in : Data → Option Moment
seconds_in d = do
  secs ← number_in d
  Some (record { secs = secs; nsecs = 0 })

-- a moment: a number of seconds, or a stamp
abbrev pub moment_in : Data → Option Moment
moment_in d = if is_some (as_number d) then seconds_in d else stamp_in d

-- the greatest number of workers: a number, or null for none
abbrev pub limit_in : Data → Option (Option ℕ)
limit_in d = if is_some (as_null d) then Some None else option_map Some (number_in d)

abbrev pub is_object : Data → Bool
is_object d = is_some (as_object d)

-- an object, or one without members if there is no value
abbrev pub object_or_empty : Option Data → Option Data
object_or_empty None = Some (object no_members)
object_or_empty (Some d) = if is_object d then Some d else None

-- the object at a reference, or one without members if there is none
abbrev pub object_at : Option (Bor Value) → Data
object_at None = object no_members
object_at (Some value) = view value.now
