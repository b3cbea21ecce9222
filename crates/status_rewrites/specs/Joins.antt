-- Two sorted lists, joined by type and id.
use Rattle.std.specs.Prelude.{◌≡◌, Bool, false, List, map}
use Rattle.std.specs.List.{filter, zip}
use Rattle.std.specs.List.Sorted.{IsSortedBy, IsSortedByKey}
use Rattle.std.specs.Ordering.{is_lt}
use Rattle.status_rewrites.specs.declared.tracker.ChangeKind.{ChangeKind}
use Rattle.status_rewrites.specs.declared.seen.Seen.{Seen}
use Rattle.status_rewrites.specs.declared.tracker.Pair.{Pair}
use Rattle.status_rewrites.specs.TrackedChanges.{Changed}
use Rattle.status_rewrites.specs.IdentityPairs.{key_cmp, are_alike, may_stand}
use Rattle.status_rewrites.specs.SeenItems.{changed_of}

-- The changes of a list with the type and id of `key`.
abbrev pub alike_in : Changed → List Seen → List Seen
alike_in key xs = filter (λ s. are_alike (changed_of s) key) xs

-- The changes of a list that are of one side and may be in a pair.
abbrev pub side_of : ChangeKind → Bool → List Seen → List Seen
side_of side track_empty xs = filter (λ s. may_stand side track_empty (changed_of s)) xs

-- Two lists with the same changes of each type and id, in the same order.
abbrev pub HasRows : List Seen → List Seen → Type 0
HasRows xs ys = (key : Changed) → alike_in key ys ≡ alike_in key xs

abbrev pub AreByKey : List Seen → Type 0
AreByKey xs = IsSortedByKey changed_of key_cmp xs

abbrev pub rename_of : Seen × Seen → Pair
rename_of m = record { source = m.0.place; destination = m.1.place; copy = false }

-- For each type and id, the i-th of one list pairs with the i-th of the other.
pub record IsJoin (gone came : List Seen) (pairs : List Pair) : Type 0 where
  pub matched : List (Seen × Seen)
  pub are : pairs ≡ map rename_of matched
  pub by_key : IsSortedBy (λ a b. is_lt (key_cmp (changed_of a.0) (changed_of b.0))) matched
  pub each : (key : Changed) → filter (λ m. are_alike (changed_of m.0) key) matched ≡ zip (alike_in key gone) (alike_in key came)
