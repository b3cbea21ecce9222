-- What loading an index returns.
use Rattle.std.specs.Prelude.{◌≡◌, List, Option, Some, None, Result, Ok, Err, ⊤}
use Rattle.status_index.specs.declared.stat.Moment.{Moment}
use Rattle.status_index.specs.declared.state.IndexError.{IndexError}
use Rattle.status_index.specs.declared.state.IndexError.TheVariants as refusals
use Rattle.status_index.specs.declared.state.State.{State}
use Rattle.status_index.specs.Entries.{IndexEntry, IsIndex, IsRefusal}
use Rattle.status_index.specs.States.{index_of, timestamp_of}
use Rattle.status_format.specs.declared.read.FieldError.{FieldError}
use Rattle.status_format.specs.declared.read.FieldError.TheVariants as fields
use Rattle.status_stored.specs.declared.error.LoadError.{LoadError}
use Rattle.status_stored.specs.declared.error.LoadError.TheVariants.{Form, Index, Memory}

-- The error of loading for an error of the index.
abbrev pub error_of_index : IndexError → LoadError
error_of_index refusals.Memory = Memory
error_of_index (refusals.EmptyPath at) = Index (refusals.EmptyPath at)
error_of_index (refusals.NotAscending at) = Index (refusals.NotAscending at)
error_of_index (refusals.MixedHash at) = Index (refusals.MixedHash at)

-- The error of loading for an error of a field.
abbrev pub error_of_field : FieldError → LoadError
error_of_field fields.Form = Form
error_of_field fields.Memory = Memory

-- An index is stated, and its entries are invalid for this reason. Out of memory isn't such a reason.
abbrev pub IsRefusedIndex : Option (List IndexEntry × Moment) → IndexError → Type 0
IsRefusedIndex None e = ⊥
IsRefusedIndex (Some specified) refusals.Memory = ⊥
IsRefusedIndex (Some specified) e = IsRefusal specified.0 e × (IsIndex specified.0 → ⊥)

-- Loading returns the stated index, why its entries are invalid, or that none is stated.
-- It may also return that it is out of memory, of which no more is claimed.
abbrev pub IsLoaded : Option (List IndexEntry × Moment) → Result State LoadError → Type 0
IsLoaded specified (Ok s) = specified ≡ Some (index_of s, timestamp_of s)
IsLoaded specified (Err Form) = specified ≡ None
IsLoaded specified (Err (Index e)) = IsRefusedIndex specified e
IsLoaded specified (Err Memory) = ⊤
