-- The findings that were reported to a collector.
use Rattle.std.specs.Prelude.{◌≡◌, ℕ, ◌<◌, ◌≤◌, List, [], ◌∷◌, ◌++◌, length, take, map, All, Result, Ok, Err}
use Rattle.status_call.specs.declared.index_as_worktree.types.Finding.{Finding}
use Rattle.status_call.specs.Visits.{Visit, finding_of}

-- The finding is of one of this many entries.
abbrev pub IsPlacedIn : {T U : Type 0} → ℕ → Finding T U → Type 0
IsPlacedIn count f = f.entry_index < count

module _ {T U : Type 0} (faithful : Visit T U → Type 0) where
  -- More was reported, each time faithfully: exactly these findings.
  pub record Reports (findings : List (Finding T U)) (old new : List (Visit T U)) : Type 0 where
    pub more : List (Visit T U)
    pub grew : new ≡ old ++ more
    pub faithful_all : All faithful more
    pub reported : map finding_of more ≡ findings

  -- One finding was reported, or nothing.
  abbrev pub IsFedOne : {A E : Type 0} → Finding T U → List (Visit T U) → Result A E
      → List (Visit T U) → Type 0
  IsFedOne finding old (Ok _) new = Reports (finding ∷ []) old new
  IsFedOne finding old (Err _) new = new ≡ old

  -- All findings were reported, or the first n of them.
  abbrev pub IsFed : {A E : Type 0} → List (Finding T U) → List (Visit T U) → Result A E
      → List (Visit T U) → Type 0
  IsFed findings old (Ok _) new = Reports findings old new
  IsFed findings old (Err _) new =
      (n : ℕ) × (n ≤ length findings) × Reports (take n findings) old new
