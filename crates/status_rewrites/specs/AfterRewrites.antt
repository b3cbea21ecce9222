-- The list after its rewrites.
use Rattle.std.specs.Prelude.{◌≡◌, ℕ, zero, suc, ◌==◌, Bool, true, false, List, [], ◌∷◌, map, Option, Some, None, Result, Ok, Err, slice_get, find, ⊤}
use Rattle.std.specs.Global.{Vec}
use Rattle.std.specs.List.{All, enumerate_from, flat_map, sum_by}
use Rattle.status_rewrites.specs.declared.tracker.Pair.{Pair}
use Rattle.status_rewrites.specs.declared.rewrites.Refused.{Refused}
use Rattle.status_rewrites.specs.declared.rewrites.Refused.TheVariants.{BadPair, Memory}
use Rattle.status_rewrites.specs.declared.rewrites.Rewritten.{Rewritten}
use Rattle.status_rewrites.specs.declared.rewrites.Rewritten.TheVariants.{Alone, Rewrite}
use Rattle.status_rewrites.specs.Lawful.{AreLawful, IsBadPair}
use Rattle.status_rewrites.specs.Parts.{renames_from}

-- The item that a pair brings to its destination, for its source x: a copy brings a copy of x, a rename x itself.
abbrev pub IsMovedItem : {I : Type 0} → (I → I → Type 0) → Bool → I → I → Type 0
IsMovedItem is_made_of true x y = is_made_of x y
IsMovedItem is_made_of false x y = y ≡ x

-- A pair with the item that it brings, by its source in the list.
abbrev pub Brings : {I : Type 0} → (I → I → Type 0) → List I → Pair × I → Type 0
Brings {I} is_made_of xs m = (x : I) × (slice_get xs m.0.source ≡ Some x) × IsMovedItem is_made_of m.0.copy x m.1

abbrev pub pairs_of : {I : Type 0} → List (Pair × I) → List Pair
pairs_of {I} ms = map (λ (m : Pair × I). m.0) ms

-- The item that is left at a position, by the number of renames that take it out.
abbrev pub item_left : {I : Type 0} → ℕ → I → Option I
item_left zero x = Some x
item_left (suc n) x = None

-- The pair whose destination is a position, with the item that it brings.
abbrev pub pair_to : {I : Type 0} → List (Pair × I) → ℕ → Option (Pair × I)
pair_to {I} ms i = find (λ (m : Pair × I). m.0.destination == i) ms

-- The entries at a position, by the item that is left and the pair that comes: none, the item alone, or a rewrite.
abbrev pub entries_here : {I : Type 0} → Option I → Option (Pair × I) → List (Rewritten I)
entries_here None m = []
entries_here (Some x) None = Alone x ∷ []
entries_here (Some x) (Some m) = Rewrite m.1 x m.0.copy ∷ []

-- The list after the rewrites, position by position.
abbrev pub after_rewrites : {I : Type 0} → List I → List (Pair × I) → List (Rewritten I)
after_rewrites {I} xs ms =
    flat_map (λ (e : ℕ × I). entries_here (item_left (renames_from (pairs_of ms) e.0) e.1) (pair_to ms e.0)) (enumerate_from 0 xs)

-- The list's items that an entry has: both for a rename, for a copy only its destination.
abbrev pub parts : {I : Type 0} → Rewritten I → List I
parts (Alone x) = x ∷ []
parts (Rewrite x y true) = y ∷ []
parts (Rewrite x y false) = x ∷ y ∷ []

-- The list after the rewrites of these pairs. Each item is in it once, alone or in a rewrite.
pub record IsRewritten {I : Type 0} (is_made_of : I → I → Type 0) (xs : List I) (ps : List Pair) (entries : List (Rewritten I)) : Type 0 where
  -- The pairs, each with the item that it brings.
  pub moves : List (Pair × I)
  pub moves_are : pairs_of moves ≡ ps
  pub bring : All (Brings is_made_of xs) moves
  pub entries_are : entries ≡ after_rewrites xs moves
  -- Any sum over the items is unchanged: no item is lost or doubled.
  pub bag : (f : I → ℕ) → sum_by f (flat_map parts entries) ≡ sum_by f xs

-- Lawful pairs come to their destinations, no item is lost or doubled; otherwise the first bad pair, or out of memory. Or memory
-- ran out.
abbrev pub IsRewriteAnswer : {I : Type 0} → (I → Bool) → (I → Bool) → (I → I → Type 0) → List I → List Pair → Result (Vec (Rewritten I)) Refused → Type 0
IsRewriteAnswer removed walked is_made_of xs ps (Ok entries) = AreLawful removed walked xs ps × IsRewritten is_made_of xs ps entries.items
IsRewriteAnswer removed walked is_made_of xs ps (Err (BadPair at)) = IsBadPair removed walked xs ps at
IsRewriteAnswer removed walked is_made_of xs ps (Err Memory) = ⊤
