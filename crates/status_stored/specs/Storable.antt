-- Which indexes can be stored, and what storing returns.
use Rattle.std.specs.Prelude.{◌≡◌, ℕ, ◌<◌, List, length, take, All, Result, Ok, Err, ⊤, String}
use Rattle.std.specs.BTreeMap.{BTreeMap}
use Rattle.std.specs.declared.alloc.Global.{Global}
use Rattle.std.specs.List.{slice_index_or}
use Rattle.std.specs.Str.{IsUtf8}
use Rattle.serde_json.specs.Data.{Members}
use Rattle.serde_json.specs.View.{members_view, view}
use Rattle.serde_json.specs.declared.value.Value.{Value}
use Rattle.status_index.specs.declared.stat.Moment.{Moment}
use Rattle.status_index.specs.Entries.{IndexEntry}
use Rattle.status_stored.specs.declared.error.StoreError.{StoreError}
use Rattle.status_stored.specs.declared.error.StoreError.TheVariants.{NotUtf8, Memory}
use Rattle.status_format.specs.StoredEntry.{stored_entry}
use Rattle.status_stored.specs.StoredIndex.{stored_index, stored_with}
use Rattle.status_format.specs.Storable.{Fits32, IsStorable, HasKnownBits}

-- An index of such entries.
pub record IsStorableIndex (es : List IndexEntry) (t : Moment) : Type 0 where
  pub entries : All IsStorable es
  pub secs : Fits32 t.secs
  pub nsecs : Fits32 t.nsecs

-- Each path is UTF-8.
abbrev pub AreUtf8 : List IndexEntry → Type 0
AreUtf8 es = All (λ e. IsUtf8 e.path) es

-- All flags of an index are known.
abbrev pub AreKnown : List IndexEntry → Type 0
AreKnown es = All (λ e. HasKnownBits e.flags.0) es

-- The entry at this position is the first whose path isn't UTF-8.
pub record IsNotUtf8At (es : List IndexEntry) (at : ℕ) : Type 0 where
  pub inside : at < length es
  pub before : AreUtf8 (take at es)
  pub here : (d : IndexEntry) → IsUtf8 (slice_index_or es at d).path → ⊥

-- Why an index isn't stored.
abbrev pub IsStoreRefusal : List IndexEntry → StoreError → Type 0
IsStoreRefusal es (NotUtf8 at) = IsNotUtf8At es at
IsStoreRefusal es Memory = ⊤

-- An index is stored if all its paths are UTF-8; otherwise the first that isn't is named.
abbrev pub IsStored : List IndexEntry → Moment → Result Value StoreError → Type 0
IsStored es t (Ok value) = IsStorableIndex es t × (view value ≡ stored_index es t)
IsStored es t (Err e) = IsStoreRefusal es e

-- The same for the members of an object in which an index is stored.
abbrev pub IsStoredWith : Members → List IndexEntry → Moment → Result (BTreeMap (String Global) Value) StoreError → Type 0
IsStoredWith before es t (Ok members) = IsStorableIndex es t × (members_view members.entries ≡ stored_with before es t)
IsStoredWith before es t (Err e) = IsStoreRefusal es e
