-- Finished pieces in slots by their numbers.
use Rattle.std.proofs.Common.{◌≡◌, ◌≢◌, refl, sym, ap, subst, inl, inr, ◌∙◌, ℕ, ◌<◌, ◌==◌, true, false, List, [], ◌∷◌, ◌++◌, length, map, set, replicate, All, Option, None, Some, IsSome, slice_get, Result, Ok, Err, IfOk, Vec, arith}
use Rattle.std.specs.List.{slice_index_or}
use Rattle.std.specs.Option.{option_to_list, option_map}
use Rattle.std.proofs.lemmas.List.{length-set, length-map, length-replicate, get_or-replicate, get_or-set_same, get_or-set_other, get_or_default, nil_from_length}
use Rattle.std.proofs.lemmas.Option.{slice_get_within, slice_get-map, get_or_from_slice_get}
use Rattle.std.proofs.lemmas.Bool.{eqb-true, eqb-false, cases_Bool}
use Rattle.status_board.specs.declared.work.Finished.{Finished}
use Rattle.status_board.specs.FinishedPieces.{outs_at, IsInOrder, IsPlaced}
use Rattle.status_board.proofs.Lists.{outs_at-here, outs_at-other}

module _ {O : Type 0} where
  pub placed_none : (fs : List (Finished O)) (end : ℕ) (slots : List (Option O)) → slots ≡ replicate end None → IsPlaced fs end slots fs
  placed_none fs end slots is = record {
    all = ap length is ∙ length-replicate end None;
    each = λ n l. let empty : slice_index_or slots n None ≡ None = ap (λ (s : List (Option O)). slice_index_or s n None) is ∙ get_or-replicate end n None None l in rw empty refl;
  }

  -- a slot is empty before its piece is placed
  was_empty : (s : Option O) (out : O) (rest all : List O) → option_to_list s ++ out ∷ rest ≡ all → length all ≡ 1 → (s ≡ None) × (rest ≡ [])
  was_empty None out [] all is one = (refl, refl)
  was_empty None out (x ∷ rest) all is one = absurd (omega (arith, ap length is))
  was_empty (Some x) out rest all is one = absurd (omega (arith, ap length is))

  module _ (fs : List (Finished O)) (end : ℕ) (slots : List (Option O)) (f : Finished O) (rest : List (Finished O)) (once : (n : ℕ) → n < end → length (outs_at n fs) ≡ 1) (before : IsPlaced fs end slots (f ∷ rest)) where
    slot_here : (n : ℕ) → n < end → (f.number == n) ≡ true → option_to_list (slice_index_or (set slots f.number (Some f.out)) n None) ++ outs_at n rest ≡ outs_at n fs
    slot_here n l e =
        let same : f.number ≡ n = eqb-true f.number n e in
        let now : option_to_list (slice_index_or slots n None) ++ f.out ∷ outs_at n rest ≡ outs_at n fs = rw (sym (outs_at-here n f rest e)) (before.each n l) in
        let empty = was_empty (slice_index_or slots n None) f.out (outs_at n rest) (outs_at n fs) now (once n l) in
        let long : n < length slots = omega (arith, before.all) in
        let new : slice_index_or (set slots f.number (Some f.out)) n None ≡ Some f.out = rw same (get_or-set_same slots n (Some f.out) None long) in
        let old : f.out ∷ outs_at n rest ≡ outs_at n fs = subst (λ (s : Option O). option_to_list s ++ f.out ∷ outs_at n rest ≡ outs_at n fs) empty.0 now in
        rw new old

    slot_other : (n : ℕ) → n < end → (f.number == n) ≡ false → option_to_list (slice_index_or (set slots f.number (Some f.out)) n None) ++ outs_at n rest ≡ outs_at n fs
    slot_other n l e =
        let other : n ≢ f.number = λ q. eqb-false f.number n e (sym q) in
        rw (get_or-set_other slots f.number n (Some f.out) None other) (rw (sym (outs_at-other n f rest e)) (before.each n l))

    pub placed_more : IsPlaced fs end (set slots f.number (Some f.out)) rest
    placed_more = record {
      all = length-set slots f.number (Some f.out) ∙ before.all;
      each = λ n l. elim (cases_Bool (f.number == n)) [ inl e ↦ slot_here n l e | inr e ↦ slot_other n l e ];
    }

  -- nothing is left to place
  pub placed_end : (fs : List (Finished O)) (end : ℕ) (slots : List (Option O)) (rest : List (Finished O)) → length rest ≡ 0 → IsPlaced fs end slots rest → IsPlaced fs end slots []
  placed_end fs end slots rest gone placed = subst (λ (r : List (Finished O)). IsPlaced fs end slots r) (nil_from_length rest gone) placed

  -- a slot is full if it has one result
  is_full : (s : Option O) (all : List O) → option_to_list s ++ [] ≡ all → length all ≡ 1 → IsSome s
  is_full None all is one = absurd (omega (arith, ap length is))
  is_full (Some x) all is one = refl

  module _ (fs : List (Finished O)) (end : ℕ) (slots : List (Option O)) (placed : IsPlaced fs end slots []) where
    pub all_full : ((n : ℕ) → n < end → length (outs_at n fs) ≡ 1) → All IsSome slots
    all_full once n d l =
        let inside : n < end = omega (arith, placed.all) in
        let full = is_full (slice_index_or slots n None) (outs_at n fs) (placed.each n inside) (once n inside) in
        rw (get_or_default slots n d None l) full

    pub placed_all : (outs : List O) → map Some outs ≡ slots → IsInOrder fs end outs
    placed_all outs is = record {
      all = sym (length-map outs Some) ∙ ap length is ∙ placed.all;
      each = λ n out at.
          let l : n < length outs = slice_get_within outs n out at in
          let inside : n < end = omega (arith, placed.all, ap length is, length-map outs (λ (x : O). Some x)) in
          let here : slice_get slots n ≡ Some (Some out) = rw (sym is) (slice_get-map Some outs n ∙ ap (option_map Some) at) in
          let slot : slice_index_or slots n None ≡ Some out = get_or_from_slice_get slots n (Some out) None here in
          sym (rw slot at (placed.each n inside));
    }

    pub placed_outs : {A E : Type 0} (r : Result (Vec O A) E) → IfOk r (λ outs. map Some outs.items ≡ slots) → IfOk r (λ outs. IsInOrder fs end outs.items)
    placed_outs (Ok outs) is = placed_all outs.items is
    placed_outs (Err e) is = tt
