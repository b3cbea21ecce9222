-- The entries of an index, and which lists of entries are a valid index.
use Rattle.std.specs.Prelude.{◌≡◌, ◌≢◌, ℕ, ◌<◌, ◌-◌, nat_le, ◌&&◌, cond, List, [], length, take, map, All, AllPairs, ⊤}
use Rattle.std.specs.List.{slice_index_or, slice_range}
use Rattle.std.specs.Ordering.{nat_cmp, ordering_then}
use Rattle.std.specs.Cmp.Lexicographic.{slice_cmp}
use Rattle.std.specs.declared.cmp.Ordering.{Ordering}
use Rattle.std.specs.declared.cmp.Ordering.TheVariants.{Less}
use Rattle.bstr.specs.Owned.{bstring_bytes}
use Rattle.status_index.specs.declared.entry.Entry.{Entry}
use Rattle.status_index.specs.declared.entry.PathStorage.{PathStorage}
use Rattle.status_index.specs.declared.entry.NewEntry.{NewEntry}
use Rattle.status_index.specs.declared.stat.Stat.{Stat}
use Rattle.status_index.specs.declared.id.ObjectId.{ObjectId}
use Rattle.status_index.specs.declared.entry.Flags.{Flags}
use Rattle.status_index.specs.declared.mode.Mode.{Mode}
use Rattle.status_index.specs.declared.state.IndexError.{IndexError}
use Rattle.status_index.specs.declared.state.IndexError.TheVariants.{EmptyPath, NotAscending, MixedHash, Memory}
use Rattle.status_index.specs.FlagBits.{stage_of_bits}
use Rattle.status_index.specs.BlobId.{id_kind}

-- An entry has a path (empty if not in its storage), stat, id, flags and mode.
pub record IndexEntry : Type 0 where
  pub path : List ℕ
  pub stat : Stat
  pub id : ObjectId
  pub flags : Flags
  pub mode : Mode

-- The stage of an entry.
abbrev pub stage_of : IndexEntry → ℕ
stage_of e = stage_of_bits e.flags.0

-- A stored entry with this path.
abbrev pub entry_at : List ℕ → Entry → IndexEntry
entry_at path e = record { path = path; stat = e.stat; id = e.id; flags = e.flags; mode = e.mode }

-- The bytes from one position up to another, or none if these positions aren't a range of the bytes.
unfoldable pub bytes_within : List ℕ → ℕ → ℕ → List ℕ
bytes_within bytes from to = cond (nat_le from to && nat_le to (length bytes)) (slice_range bytes from to) []

-- The path that a storage has for an entry, or the empty path.
abbrev pub path_in : PathStorage → Entry → List ℕ
path_in backing e = bytes_within backing.bytes.items e.path.start e.path.end

-- A stored entry, with its path from the storage.
abbrev pub index_entry : PathStorage → Entry → IndexEntry
index_entry backing e = entry_at (path_in backing e) e

abbrev pub index_entries : PathStorage → List Entry → List IndexEntry
index_entries backing = map (index_entry backing)

-- An entry that is to be put into an index.
abbrev pub new_entry : NewEntry → IndexEntry
new_entry e = record { path = bstring_bytes e.path; stat = e.stat; id = e.id; flags = e.flags; mode = e.mode }

-- An entry of these fields.
abbrev pub entry_of_fields : List ℕ → Stat → ObjectId → Flags → Mode → IndexEntry
entry_of_fields path stat id flags mode = record { path = path; stat = stat; id = id; flags = flags; mode = mode }

-- Compares by the bytes of the paths, with a proper prefix first, and then by stage.
abbrev pub entry_cmp : IndexEntry → IndexEntry → Ordering
entry_cmp a b = ordering_then (slice_cmp nat_cmp a.path b.path) (nat_cmp (stage_of a) (stage_of b))

-- No path is empty, entries ascend strictly by path bytes, then stage, and ids are of one kind.
pub record IsIndex (es : List IndexEntry) : Type 0 where
  pub named : All (λ e. 0 < length e.path) es
  pub ascending : AllPairs (λ a b. entry_cmp a b ≡ Less) es
  pub one_kind : AllPairs (λ a b. id_kind a.id ≡ id_kind b.id) es

-- The entry at this position has an empty path.
abbrev pub IsUnnamed : List IndexEntry → ℕ → Type 0
IsUnnamed es at = (d : IndexEntry) → (slice_index_or es at d).path ≡ []

-- The entry at this position isn't greater than its predecessor.
abbrev pub IsOutOfOrder : List IndexEntry → ℕ → Type 0
IsOutOfOrder es at = (0 < at) × ((d : IndexEntry) → entry_cmp (slice_index_or es (at - 1) d) (slice_index_or es at d) ≢ Less)

-- The id at this position is of another kind than that of entry 0.
abbrev pub IsOfOtherKind : List IndexEntry → ℕ → Type 0
IsOfOtherKind es at = (d : IndexEntry) → id_kind (slice_index_or es at d).id ≢ id_kind (slice_index_or es 0 d).id

-- The position is in the list, and the entries before it are a valid index.
abbrev pub IsFirstAt : List IndexEntry → ℕ → Type 0
IsFirstAt es at = (at < length es) × IsIndex (take at es)

-- A list is refused at its lowest invalid position: empty path, then order, then mixed kind of id.
-- A refusal for memory claims nothing of the list.
abbrev pub IsRefusal : List IndexEntry → IndexError → Type 0
IsRefusal es (EmptyPath at) = IsFirstAt es at × IsUnnamed es at
IsRefusal es (NotAscending at) = IsFirstAt es at × (IsUnnamed es at → ⊥) × IsOutOfOrder es at
IsRefusal es (MixedHash at) = IsFirstAt es at × (IsUnnamed es at → ⊥) × (IsOutOfOrder es at → ⊥) × IsOfOtherKind es at
IsRefusal es Memory = ⊤
