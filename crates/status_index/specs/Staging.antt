-- Putting an entry into an index, and removing a path.
use Rattle.std.specs.Prelude.{◌≡◌, ◌≢◌, ℕ, Bool, List, [], ◌++◌, length, Option, Some, None, filter, ⊤}
use Rattle.std.specs.List.{Any}
use Rattle.std.specs.Option.{option_to_list}
use Rattle.std.specs.Ordering.{nat_cmp, is_lt}
use Rattle.std.specs.Cmp.Lexicographic.{slice_cmp}
use Rattle.status_index.specs.declared.state.IndexError.{IndexError}
use Rattle.status_index.specs.declared.state.IndexError.TheVariants.{EmptyPath, NotAscending, MixedHash, Memory}
use Rattle.status_index.specs.BlobId.{id_kind}
use Rattle.status_index.specs.Entries.{IndexEntry}
use Rattle.status_index.specs.Stretch.{is_below}

-- Whether an entry's path is greater than this path.
abbrev pub is_above : List ℕ → IndexEntry → Bool
is_above path e = is_lt (slice_cmp nat_cmp path e.path)

-- An index in which a path has this entry, or none: the entries of lower paths, this one, and those of greater paths.
abbrev pub with_entry : List IndexEntry → List ℕ → Option IndexEntry → List IndexEntry
with_entry es path new = filter (is_below path) es ++ option_to_list new ++ filter (is_above path) es

-- A put entry replaces all entries of its path; refused for an empty path or a mixed kind of id.
abbrev pub with_put : List IndexEntry → IndexEntry → List IndexEntry
with_put es e = with_entry es e.path (Some e)

-- How many entries have lower paths. This is the position of the path's first entry.
abbrev pub place_of : List IndexEntry → List ℕ → ℕ
place_of es path = length (filter (is_below path) es)

-- An entry of another path has an id of another kind than this entry.
abbrev pub IsOddKind : List IndexEntry → IndexEntry → Type 0
IsOddKind es e = Any (λ x. id_kind x.id ≢ id_kind e.id) (with_entry es e.path None)

-- Why an entry isn't put: its path is empty, or otherwise an entry of another path has an id of another kind. `at` is the
-- position that the entry would have. A refusal for memory claims nothing of the entry.
abbrev pub IsPutRefusal : List IndexEntry → IndexEntry → IndexError → Type 0
IsPutRefusal es e (EmptyPath at) = (at ≡ place_of es e.path) × (e.path ≡ [])
IsPutRefusal es e (NotAscending at) = ⊥
IsPutRefusal es e (MixedHash at) = (at ≡ place_of es e.path) × (e.path ≢ []) × IsOddKind es e
IsPutRefusal es e Memory = ⊤
