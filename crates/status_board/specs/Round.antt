-- The results of a round of pieces.
use Rattle.std.specs.Prelude.{◌≡◌, ℕ, ◌+◌, ◌-◌, ◌<◌, ◌≤◌, Bool, true, false, List, length, Some, slice_get}

-- There is a last result, and its piece ended short.
abbrev pub EndsShort : {O : Type 0} → (O → Bool) → List O → Type 0
EndsShort {O} short outs = (last : O) × (slice_get outs (length outs - 1) ≡ Some last) × (short last ≡ true)

-- Results are of the pieces in order, each as it may be, up to the first short one or the last.
pub record IsRound {O : Type 0} (gives : ℕ → O → Type 0) (short : O → Bool) (pieces : ℕ) (outs : List O) : Type 0 where
  pub few : length outs ≤ pieces
  pub each : (n : ℕ) (out : O) → slice_get outs n ≡ Some out → gives n out
  pub before : (n : ℕ) (out : O) → slice_get outs n ≡ Some out → n + 1 < length outs → short out ≡ false
  pub through : length outs < pieces → EndsShort short outs
