-- The renames among changes, by equal content.
use Rattle.std.specs.Prelude.{◌≡◌, ℕ, ◌==◌, Bool, true, false, not, ◌&&◌, ◌||◌, List, map}
use Rattle.std.specs.List.{filter, zip, enumerate_from}
use Rattle.std.specs.List.Sorted.{IsPermutation, IsSorted, IsSortedBy}
use Rattle.std.specs.Ordering.{nat_cmp, ordering_then, is_lt, is_eq}
use Rattle.std.specs.Cmp.Lexicographic.{slice_cmp}
use Rattle.std.specs.declared.cmp.Ordering.{Ordering}
use Rattle.status_index.specs.BlobId.{id_kind, null_id, same_id, is_empty_blob}
use Rattle.status_index.specs.Orders.{id_cmp}
use Rattle.status_index.specs.declared.id.ObjectId.{ObjectId}
use Rattle.status_index.specs.declared.mode.EntryKind.{EntryKind}
use Rattle.status_index.specs.declared.mode.EntryKind.TheVariants.{Tree, Blob, BlobExecutable, Link, Commit}
use Rattle.status_rewrites.specs.declared.tracker.ChangeKind.{ChangeKind}
use Rattle.status_rewrites.specs.declared.tracker.ChangeKind.TheVariants.{Deletion, Modification, Addition}
use Rattle.status_rewrites.specs.declared.tracker.Pair.{Pair}
use Rattle.status_rewrites.specs.TrackedChanges.{Changed}

-- 0 for files, executable or not, and 1 for links: these pair with their like. 2 for all others, which are in no pair.
abbrev pub mode_number : EntryKind → ℕ
mode_number Blob = 0
mode_number BlobExecutable = 0
mode_number Link = 1
mode_number Tree = 2
mode_number Commit = 2

-- A change with its position in the list.
abbrev pub NumberedChange : Type 0
NumberedChange = ℕ × Changed

-- By type, and then by id.
unfoldable pub key_cmp : Changed → Changed → Ordering
key_cmp a b = ordering_then (nat_cmp (mode_number a.mode) (mode_number b.mode)) (id_cmp a.id b.id)

-- Of one type and one id.
abbrev pub are_alike : Changed → Changed → Bool
are_alike a b = is_eq (key_cmp a b)

-- By path, and at equal paths by position.
unfoldable pub place_cmp : NumberedChange → NumberedChange → Ordering
place_cmp a b = ordering_then (slice_cmp nat_cmp a.1.path b.1.path) (nat_cmp a.0 b.0)

abbrev pub is_on : ChangeKind → ChangeKind → Bool
is_on Deletion Deletion = true
is_on Modification Modification = true
is_on Addition Addition = true
is_on _ _ = false

abbrev pub is_null : ObjectId → Bool
is_null id = same_id id (null_id (id_kind id))

-- A change of this side that may be in a pair: a file or a link with a known id, and with bytes unless empty files are tracked.
unfoldable pub may_stand : ChangeKind → Bool → Changed → Bool
may_stand side track_empty x =
    is_on x.kind side && not (mode_number x.mode == 2) && not (is_null x.id) && (track_empty || not (is_empty_blob x.id))

-- The changes of one side with the type and id of `key`, in the list's order.
abbrev pub row : ChangeKind → Bool → Changed → List NumberedChange → List NumberedChange
row side track_empty key xs = filter (λ x. are_alike x.1 key) (filter (λ x. may_stand side track_empty x.1) xs)

-- A rename from the first to the second.
abbrev pub rename : NumberedChange × NumberedChange → Pair
rename m = record { source = m.0.0; destination = m.1.0; copy = false }

-- Of the deletions with one type and one id, in the order of their paths and then of their positions, the i-th is paired with
-- the i-th addition of that type and id. Items with a null id are in no pair, and without `track_empty` neither are those with
-- the id of the empty blob. So each has a pair as long as both sides have one.
pub record AreIdentityPairs (track_empty : Bool) (xs : List Changed) (pairs : List Pair) : Type 0 where
  -- The changes by path, and at equal paths by position.
  pub ordered : List NumberedChange
  pub bag : IsPermutation (enumerate_from 0 xs) ordered
  pub ascends : IsSorted place_cmp ordered
  -- The pairs with their changes, by type and id.
  pub matched : List (NumberedChange × NumberedChange)
  pub are : pairs ≡ map rename matched
  pub by_key : IsSortedBy (λ a b. is_lt (key_cmp a.0.1 b.0.1)) matched
  -- The pairs of each type and id.
  pub each : (key : Changed) → filter (λ m. are_alike m.0.1 key) matched ≡ zip (row Deletion track_empty key ordered) (row Addition track_empty key ordered)
