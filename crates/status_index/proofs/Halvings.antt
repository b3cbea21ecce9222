-- How many questions a binary search has left.
use Rattle.std.proofs.Common.{ℕ, zero, suc, ◌+◌, ◌<◌, ◌≤◌, ◌^◌, arith}
use Rattle.std.proofs.Math.Nat.{pow-suc}
use Rattle.status_index.specs.Probes.{once_more}

-- The questions asked since the start and the digits of the positions left are together at most the digits of all positions.
pub record IsHalved (start now left len : ℕ) : Type 0 where
  pub few : (digits : ℕ) → len < 2 ^ digits → (rest : ℕ) × (left < 2 ^ rest) × (now + rest ≤ start + digits)

next_rest : (rest left next now bound : ℕ) → left < 2 ^ rest → 0 < left → next + next ≤ left → now + rest ≤ bound → (r : ℕ) × (next < 2 ^ r) × (once_more now + r ≤ bound)
next_rest zero left next now bound l some half within = absurd (omega arith)
next_rest (suc r) left next now bound l some half within = (r, omega (arith, pow-suc 2 r), omega arith)

pub IsHalved-next : (start now left next len : ℕ) → 0 < left → next + next ≤ left → IsHalved start now left len → IsHalved start (once_more now) next len
IsHalved-next start now left next len some half h = record {
  few = λ digits l. let p = h.few digits l in next_rest p.0 left next now (start + digits) p.1 some half p.2;
}
