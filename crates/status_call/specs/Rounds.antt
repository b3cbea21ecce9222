-- The pieces of a round.
use Rattle.std.specs.Prelude.{◌≡◌, ℕ, ◌-◌, ◌<◌, ◌≤◌, Bool, false, true, List, [], ◌∷◌, length, All, AllPairs, min, ◌+◌}
use Rattle.std.specs.List.{slice_index_or}
use Rattle.status_index.specs.Entries.{IndexEntry}
use Rattle.status_call.specs.declared.index_as_worktree.piece.End.{End}
use Rattle.status_call.specs.declared.index_as_worktree.piece.End.TheVariants.{Whole, Interrupted, Faulty}
use Rattle.status_call.specs.declared.index_as_worktree.piece.Piece.{Piece}
use Rattle.status_call.specs.Pieces.{IsCut, IsPiece, IsUninterrupted}
use Rattle.status_call.specs.Query.{Query}
use Rattle.status_call.specs.Views.{Allows}

-- The start of the first piece, and the end of each. No path has entries in two pieces.
pub record AreBounds (es : List IndexEntry) (bounds : List ℕ) : Type 0 where
  pub pieces : 1 < length bounds
  pub ascending : AllPairs (λ a b. a < b) bounds
  pub inside : All (λ b. b ≤ length es) bounds
  pub cuts : All (λ b. IsCut es b) bounds

-- The start of the piece with this number.
abbrev pub bound : List ℕ → ℕ → ℕ
bound bounds n = slice_index_or bounds n 0

-- The end of the last piece.
abbrev pub last_bound : List ℕ → ℕ
last_bound bounds = bound bounds (length bounds - 1)

-- The end of a piece of `piece_len` entries that begins at a position. It has at least that many entries, or all that are left. It
-- ends no later than the next position after those that separates no path.
pub record IsPieceEnd (es : List IndexEntry) (piece_len from end : ℕ) : Type 0 where
  pub more : from < end
  pub full : min (from + piece_len) (length es) ≤ end
  pub tight : (k : ℕ) → from + piece_len ≤ k → from < k → k < end → IsCut es k → ⊥

-- Each piece ends like that.
abbrev pub ArePieces : List IndexEntry → ℕ → List ℕ → Type 0
ArePieces es piece_len bounds =
    (k : ℕ) → k + 1 < length bounds → IsPieceEnd es piece_len (bound bounds k) (bound bounds (k + 1))

-- A piece that didn't reach its end.
abbrev pub is_short : End → Bool
is_short Whole = false
is_short Interrupted = true
is_short (Faulty x) = true

module _ {T U : Type 0} (q : Query T U) (may : Allows U) (interruptible : Bool) (start : ℕ) (es : List IndexEntry)
  where
    -- The possible results of the piece from position `at` to position `to`.
    pub record IsResult (at to : ℕ) (p : Piece T U) : Type 0 where
      pub piece : IsPiece q may start es at to p
      pub uninterrupted : interruptible ≡ false → IsUninterrupted p.end

    -- A piece from position `at` on.
    pub record IsInRow (at : ℕ) (p : Piece T U) : Type 0 where
      pub to : ℕ
      pub inside : to ≤ length es
      pub result : IsResult at to p

    -- Pieces in a row from position `at` on: whole ones up to position `to`, or up to one that didn't reach its end.
    abbrev pub AreInRow : ℕ → ℕ → List (Piece T U) → Type 0
    AreInRow to at [] = at ≡ to
    AreInRow to at (p ∷ ps) = IsInRow at p × (p.end ≡ Whole → AreInRow to p.reached ps)
