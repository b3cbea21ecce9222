-- Pairs that are renames, and the identity tracker's results.
use Rattle.std.specs.Prelude.{◌≡◌, ℕ, ◌==◌, ◌≤◌, Bool, true, false, List, Some, Result, Ok, Err}
use Rattle.std.specs.List.{All, count_by, slice_get}
use Rattle.status_rewrites.specs.declared.tracker.ChangeKind.{ChangeKind}
use Rattle.status_rewrites.specs.declared.tracker.ChangeKind.TheVariants.{Deletion, Addition}
use Rattle.status_rewrites.specs.declared.tracker.Pair.{Pair}
use Rattle.status_rewrites.specs.TrackedChanges.{Changed}
use Rattle.status_rewrites.specs.Trackers.{TrackerFault}
use Rattle.status_rewrites.specs.IdentityPairs.{is_on, AreIdentityPairs}

-- A change of this side is at a position.
abbrev pub StandsAt : List Changed → ChangeKind → ℕ → Type 0
StandsAt xs side i = (x : Changed) × (slice_get xs i ≡ Some x) × (is_on x.kind side ≡ true)

-- Renames of deletions to additions, each in one pair at most.
pub record AreRenames (xs : List Changed) (pairs : List Pair) : Type 0 where
  pub removed : All (λ p. StandsAt xs Deletion p.source) pairs
  pub added : All (λ p. StandsAt xs Addition p.destination) pairs
  pub renamed : All (λ p. p.copy ≡ false) pairs
  pub one_goes : (i : ℕ) → count_by (λ p. p.source == i) pairs ≤ 1
  pub one_comes : (i : ℕ) → count_by (λ p. p.destination == i) pairs ≤ 1

-- The identity tracker returns these pairs, all renames, each position in one at most, and never refuses.
abbrev pub IsIdentityAnswer : List Changed → Bool → Result (List Pair) TrackerFault → Type 0
IsIdentityAnswer xs track_empty (Ok pairs) = AreIdentityPairs track_empty xs pairs × AreRenames xs pairs
IsIdentityAnswer xs track_empty (Err fault) = ⊥
