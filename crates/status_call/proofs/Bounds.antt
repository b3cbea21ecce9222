-- The bounds of pieces, as they grow, and the results of pieces in a row.
use Rattle.std.proofs.Common.{◌≡◌, refl, sym, ap, ◌∙◌, subst, ℕ, zero, suc, ◌+◌, ◌-◌, ◌<◌, ◌≤◌, ◌⊎◌, inl, inr, Bool, true, List, [], ◌∷◌, ◌++◌, length, length-append, All, Option, Some, None, arith}
use Rattle.std.specs.Prelude.{AllPairs, slice_get}
use Rattle.std.specs.List.{slice_index_or}
use Rattle.std.proofs.lemmas.Bool.{cases_eq, cases_lt}
use Rattle.std.proofs.lemmas.List.{get_or_push}
use Rattle.std.proofs.lemmas.List.Elements.{All-nil, All-cons, All-append, All-weaker}
use Rattle.std.proofs.Math.ListN.{get_or-append}
use Rattle.status_index.specs.Entries.{IndexEntry}
use Rattle.status_board.specs.Round.{IsRound, EndsShort}
use Rattle.status_call.specs.declared.index_as_worktree.piece.End.TheVariants.{Whole, Interrupted, Faulty}
use Rattle.status_call.specs.declared.index_as_worktree.piece.End.{End}
use Rattle.status_call.specs.declared.index_as_worktree.piece.Piece.{Piece}
use Rattle.status_call.specs.Pieces.{IsCut, IsThrough}
use Rattle.status_call.specs.Query.{Query}
use Rattle.status_call.specs.Views.{Allows}
use Rattle.status_call.specs.Rounds.{AreBounds, AreInRow, ArePieces, IsResult, IsPieceEnd, bound, last_bound, is_short}
use Rattle.status_call.proofs.Stretch.{AllPairs-append}

-- Bounds from a position up to another.
pub record AreGrowing (es : List IndexEntry) (piece_len from at : ℕ) (bounds : List ℕ) : Type 0 where
  pub some_bound : 0 < length bounds
  pub first : bound bounds 0 ≡ from
  pub upto : All (λ b. b ≤ at) bounds
  pub one : length bounds ≡ 1 → at ≡ from
  pub ascending : AllPairs (λ a b. a < b) bounds
  pub inside : All (λ b. b ≤ length es) bounds
  pub cuts : All (λ b. IsCut es b) bounds
  pub last : last_bound bounds ≡ at
  pub ends : ArePieces es piece_len bounds

one_of : {X : Type 0} (P : X → Type 0) (x : X) → P x → All P (x ∷ [])
one_of P x h = All-cons P x [] h (All-nil P)

pub bounds_begin : (es : List IndexEntry) (piece_len from : ℕ) → from < length es → IsCut es from → AreGrowing es piece_len from from (from ∷ [])
bounds_begin es piece_len from inside cut = record {
  some_bound = omega arith;
  first = refl;
  upto = one_of (λ b. b ≤ from) from (omega arith);
  one = λ _. refl;
  ascending = λ i j d l m. absurd (omega arith);
  inside = one_of (λ b. b ≤ length es) from (omega arith);
  cuts = one_of (λ b. IsCut es b) from cut;
  last = refl;
  ends = λ k l. absurd (omega arith);
}

pub bounds_grow : (es : List IndexEntry) (piece_len from at to : ℕ) (bounds : List ℕ) → IsPieceEnd es piece_len at to → to ≤ length es → IsCut es to → AreGrowing es piece_len from at bounds → AreGrowing es piece_len from to (bounds ++ to ∷ [])
bounds_grow es piece_len from at to bounds end inside cut h = let more = end.more in record {
  some_bound = omega (arith, length-append bounds (to ∷ []));
  first = get_or-append bounds (to ∷ []) 0 0 h.some_bound ∙ h.first;
  upto = All-append (λ b. b ≤ to) bounds (to ∷ []) (All-weaker (λ b. b ≤ at) (λ b. b ≤ to) (λ b l. omega (arith, l)) bounds h.upto) (one_of (λ b. b ≤ to) to (omega arith));
  one = λ e. absurd (omega (arith, e, length-append bounds (to ∷ []), h.some_bound));
  ascending = AllPairs-append (λ a b. a < b) bounds (to ∷ []) h.ascending (λ i j d l m. absurd (omega arith)) (λ i j d l m. omega (arith, h.upto i d l, last_one j m d));
  inside = All-append (λ b. b ≤ length es) bounds (to ∷ []) h.inside (one_of (λ b. b ≤ length es) to inside);
  cuts = All-append (λ b. IsCut es b) bounds (to ∷ []) h.cuts (one_of (λ b. IsCut es b) to cut);
  last = get_or_push bounds to 0 (length (bounds ++ to ∷ []) - 1) (omega (arith, length-append bounds (to ∷ [])));
  ends = λ k l. grown k l (cases_eq (k + 1) (length bounds));
}
  where
    grown : (k : ℕ) → k + 1 < length (bounds ++ to ∷ []) → (k + 1 ≡ length bounds) ⊎ (k + 1 ≡ length bounds → ⊥) → IsPieceEnd es piece_len (bound (bounds ++ to ∷ []) k) (bound (bounds ++ to ∷ []) (k + 1))
    grown k l (inl e) =
        let here : bound (bounds ++ to ∷ []) k ≡ at = get_or-append bounds (to ∷ []) 0 k (omega (arith, e)) ∙ ap (bound bounds) (omega (arith, e)) ∙ h.last in
        rw (here, get_or_push bounds to 0 (k + 1) (sym e)) end
    grown k l (inr other) =
        let few : k + 1 < length bounds = omega (arith, l, other, length-append bounds (to ∷ [])) in
        rw (get_or-append bounds (to ∷ []) 0 k (omega arith), get_or-append bounds (to ∷ []) 0 (k + 1) few) (h.ends k few)

    last_one : (j : ℕ) → j < 1 → (d : ℕ) → slice_index_or (to ∷ []) j d ≡ to
    last_one zero l d = refl
    last_one (suc j) l d = absurd (omega arith)

pub bounds_are : (es : List IndexEntry) (piece_len from at : ℕ) (bounds : List ℕ) → (length bounds ≡ 1 → at ≡ from → ⊥) → AreGrowing es piece_len from at bounds → AreBounds es bounds
bounds_are es piece_len from at bounds more h = record {
  pieces = many (length bounds) refl;
  ascending = h.ascending;
  inside = h.inside;
  cuts = h.cuts;
}
  where
    many : (n : ℕ) → length bounds ≡ n → 1 < n
    many zero e = absurd (omega (arith, e, h.some_bound))
    many (suc zero) e = absurd (more e (h.one e))
    many (suc (suc n)) e = omega arith

short_whole : (e : End) → e ≡ Whole → is_short e ≡ true → ⊥
short_whole Whole e h = cc
short_whole Interrupted e h = cc
short_whole (Faulty x) e h = cc

some_same : {X : Type 0} (x y : X) → Some x ≡ Some y → x ≡ y
some_same x y h = cc

abbrev nothing : {X : Type 0} → Option X
nothing = None

none_some : {X : Type 0} (y : X) → nothing ≡ Some y → ⊥
none_some y h = cc

module _ {T U : Type 0} where
  abbrev pub IsShort : Piece T U → Bool
  IsShort p = is_short p.end

  -- If the first piece is whole, the one that didn't reach its end is after it.
  ends_behind : (p : Piece T U) → p.end ≡ Whole → (ps : List (Piece T U)) → EndsShort IsShort (p ∷ ps) → EndsShort IsShort ps
  ends_behind p whole [] e = absurd (short_whole p.end whole (ap IsShort (some_same p e.0 e.1) ∙ e.2))
  ends_behind p whole (r ∷ rs) e =
      let k : length (p ∷ r ∷ rs) - 1 ≡ suc (length (r ∷ rs) - 1) = omega arith in
      (e.0, sym (ap (slice_get (p ∷ r ∷ rs)) k) ∙ e.1, e.2)

module _ {T U : Type 0} (q : Query T U) (may : Allows U) (interruptible : Bool) (start : ℕ) (es : List IndexEntry) (bounds : List ℕ) (are : AreBounds es bounds) where
  abbrev Gives : ℕ → Piece T U → Type 0
  Gives n p = IsResult q may interruptible start es (bound bounds n) (bound bounds (n + 1)) p

  abbrev Row : ℕ → List (Piece T U) → Type 0
  Row at ps = AreInRow q may interruptible start es (last_bound bounds) at ps

  -- The pieces from a number on.
  row_from : (n : ℕ) (ps : List (Piece T U)) → n + length ps ≤ length bounds - 1
      → ((i : ℕ) (p : Piece T U) → slice_get ps i ≡ Some p → Gives (n + i) p)
      → (n + length ps < length bounds - 1 → EndsShort IsShort ps)
      → Row (bound bounds n) ps
  row_from n [] few each through =
      elim (cases_lt n (length bounds - 1)) [
        | inl less ↦ absurd (none_some (through (omega (arith, less))).0 (through (omega (arith, less))).1)
        | inr all ↦ ap (bound bounds) (omega (arith, all, few))
      ]
  row_from n (p ∷ ps) few each through =
      let result : Gives n p = subst (λ (m : ℕ). Gives m p) (omega arith) (each 0 p refl) in (
        record { to = bound bounds (n + 1); inside = are.inside (n + 1) 0 (omega (arith, few)); result = result },
        λ whole.
            let reached : p.reached ≡ bound bounds (n + 1) = subst (λ (e : End). IsThrough q may es (bound bounds (n + 1)) p.reached e) whole result.piece.through in
            subst (λ (at : ℕ). Row at ps) (sym reached)
            (row_from (n + 1) ps (omega (arith, few))
            (λ i r h. subst (λ (m : ℕ). Gives m r) (omega arith) (each (suc i) r h))
            (λ h. ends_behind p whole ps (through (omega (arith, h))))),
      )

  -- The pieces of a round are in a row.
  pub row_of : (ps : List (Piece T U)) → IsRound Gives IsShort (length bounds - 1) ps → Row (bound bounds 0) ps
  row_of ps h = row_from 0 ps (omega (arith, h.few)) (λ i p g. subst (λ (m : ℕ). Gives m p) (omega arith) (h.each i p g)) (λ l. h.through (omega (arith, l)))
