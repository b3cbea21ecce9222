-- Finished pieces, and their results.
use Rattle.std.specs.Prelude.{◌≡◌, ◌==◌, ℕ, ◌<◌, Bool, List, [], ◌∷◌, ◌++◌, length, map, Option, Some, None, slice_get}
use Rattle.std.specs.List.{filter, slice_index_or}
use Rattle.std.specs.Option.{option_to_list}
use Rattle.status_board.specs.declared.work.Finished.{Finished}

-- The results of the pieces with a number.
abbrev pub outs_at : {O : Type 0} → ℕ → List (Finished O) → List O
outs_at n fs = map (λ f. f.out) (filter (λ f. f.number == n) fs)

-- Exactly one piece has the number, and this is its result.
abbrev pub IsOutOf : {O : Type 0} → List (Finished O) → ℕ → O → Type 0
IsOutOf fs n out = outs_at n fs ≡ out ∷ []

-- The numbers of the pieces that ended short.
abbrev pub shorts_of : {O : Type 0} → (O → Bool) → List (Finished O) → List ℕ
shorts_of short fs = map (λ f. f.number) (filter (λ f. short f.out) fs)

-- The results are those of the pieces below `end`, one for each, in order.
pub record IsInOrder {O : Type 0} (fs : List (Finished O)) (end : ℕ) (outs : List O) : Type 0 where
  pub all : length outs ≡ end
  pub each : (n : ℕ) (out : O) → slice_get outs n ≡ Some out → IsOutOf fs n out

-- Together with the pieces still to be placed, each slot has the results of the pieces with its number.
pub record IsPlaced {O : Type 0} (fs : List (Finished O)) (end : ℕ) (slots : List (Option O)) (rest : List (Finished O)) : Type 0 where
  pub all : length slots ≡ end
  pub each : (n : ℕ) → n < end → option_to_list (slice_index_or slots n None) ++ outs_at n rest ≡ outs_at n fs
