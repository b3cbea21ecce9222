-- The list of a status.
use Rattle.std.specs.Prelude.{◌≡◌, Bool, true, false, List, ◌++◌, map}
use Rattle.std.specs.List.Sorted.{IsPermutation, IsSorted, IsStableByKey}
use Rattle.std.specs.Ordering.{nat_cmp, ordering_then}
use Rattle.std.specs.Cmp.Lexicographic.{slice_cmp}
use Rattle.std.specs.declared.cmp.Ordering.{Ordering}
use Rattle.status_index.specs.BlobId.{null_id}
use Rattle.status_index.specs.declared.id.HashKind.{HashKind}
use Rattle.status_call.specs.Visits.{Visit}
use Rattle.status_walk.specs.WalkedNodes.{Walked}
use Rattle.status_joined.specs.Items.{Item, tracked, walked, path_of, side_of}

-- The records in index order, followed by the kept nodes in the walk's order. Their ids aren't known yet.
abbrev pub unsorted : {T U : Type 0} → HashKind → List (Visit T U) → List Walked → List (Item T U)
unsorted kind visits kept = map tracked visits ++ map (λ w. walked w (null_id kind)) kept

-- By the paths' bytes; a proper prefix comes first.
abbrev pub path_cmp : {T U : Type 0} → Item T U → Item T U → Ordering
path_cmp x y = slice_cmp nat_cmp (path_of x) (path_of y)

-- By path, and at equal paths records before nodes.
abbrev pub list_cmp : {T U : Type 0} → Item T U → Item T U → Ordering
list_cmp x y = ordering_then (path_cmp x y) (nat_cmp (side_of x) (side_of y))

-- The items sorted by path. Items of one path keep their order.
pub record IsSortedList {T U : Type 0} (items list : List (Item T U)) : Type 0 where
  pub bag : IsPermutation items list
  pub stable : IsStableByKey path_of (slice_cmp nat_cmp) items list
  pub order : IsSorted list_cmp list

-- The records and then the nodes, or these stably sorted by path bytes.
abbrev pub IsList : {T U : Type 0} → Bool → List (Item T U) → List (Item T U) → Type 0
IsList false items list = list ≡ items
IsList true items list = IsSortedList items list
