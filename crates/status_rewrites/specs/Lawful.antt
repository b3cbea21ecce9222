-- Pairs that break no rule, and the first that breaks one.
use Rattle.std.specs.Prelude.{◌≡◌, ℕ, ◌+◌, ◌<◌, ◌≤◌, Bool, true, List, length, take, Some, slice_get}
use Rattle.std.specs.List.{All}
use Rattle.status_rewrites.specs.declared.tracker.Pair.{Pair}
use Rattle.status_rewrites.specs.Parts.{renames_from, copies_from, pairs_to}

-- An item has one part at most: one rename's source, one pair's destination, or the source of copies.
pub record IsLawfulAt {I : Type 0} (removed walked : I → Bool) (x : I) (gone reached made : ℕ) : Type 0 where
  pub one_goes : gone ≤ 1
  pub one_comes : reached ≤ 1
  pub goes_removed : 0 < gone → removed x ≡ true
  pub comes_walked : 0 < reached → walked x ≡ true
  pub copied_alone : 0 < made → (gone ≡ 0) × (reached ≡ 0)

-- An item is at most one rename's source, one destination, or a source of copies, if it may be. The pairs' positions are in
-- range.
pub record AreLawful {I : Type 0} (removed walked : I → Bool) (xs : List I) (ps : List Pair) : Type 0 where
  pub inside : All (λ p. (p.source < length xs) × (p.destination < length xs)) ps
  pub each : (i : ℕ) (x : I) → slice_get xs i ≡ Some x → IsLawfulAt removed walked x (renames_from ps i) (pairs_to ps i) (copies_from ps i)

-- The first n pairs break no rule, and with the next they do.
pub record IsBadPair {I : Type 0} (removed walked : I → Bool) (xs : List I) (ps : List Pair) (n : ℕ) : Type 0 where
  pub within : n < length ps
  pub before : AreLawful removed walked xs (take n ps)
  pub broken : AreLawful removed walked xs (take (n + 1) ps) → ⊥
