-- The results of the steps of storing.
use Rattle.std.specs.Prelude.{◌≡◌, List, map, Vec, Result, Ok, Err, All}
use Rattle.std.specs.declared.alloc.Global.{Global}
use Rattle.serde_json.specs.View.{view}
use Rattle.serde_json.specs.declared.value.Value.{Value}
use Rattle.status_index.specs.Entries.{IndexEntry}
use Rattle.status_stored.specs.declared.error.StoreError.{StoreError}
use Rattle.status_format.specs.Storable.{IsStorable}
use Rattle.status_stored.specs.Storable.{IsStoreRefusal}
use Rattle.status_format.specs.StoredEntry.{stored_entry}

-- These are the values of the entries.
pub record AreValuesOf (es : List IndexEntry) (values : List Value) : Type 0 where
  pub storable : All IsStorable es
  pub shown : map view values ≡ map stored_entry es

-- The values of the entries, or why the index isn't stored.
abbrev pub AreStored : List IndexEntry → Result (Vec Value Global) StoreError → Type 0
AreStored es (Ok values) = AreValuesOf es values.items
AreStored es (Err e) = IsStoreRefusal es e
