-- Bytes in parts.
use Rattle.std.specs.Prelude.{◌≡◌, ◌==◌, ℕ, Bool, false, List, ◌∷◌, ◌++◌, All}

abbrev pub is_byte : ℕ → ℕ → Bool
is_byte value b = b == value

-- No byte has this value.
abbrev pub Lacks : ℕ → List ℕ → Type 0
Lacks value bytes = All (λ b. is_byte value b ≡ false) bytes

-- The bytes are a part without this value, a byte of this value, and the rest.
abbrev pub IsSplitAt : ℕ → List ℕ → List ℕ → List ℕ → Type 0
IsSplitAt value bytes front rest = Lacks value front × (bytes ≡ front ++ value ∷ rest)
