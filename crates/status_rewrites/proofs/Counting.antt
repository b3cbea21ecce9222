-- The change of a position's numbers by one more pair.
use Rattle.std.proofs.Common.{◌≡◌, refl, sym, ap, ◌∙◌, ℕ, ◌+◌, ◌==◌, Bool, true, false, cond, not, ◌&&◌, List, [], ◌∷◌, ◌++◌, Some, None, eq-eqb, arith}
use Rattle.std.specs.Option.{option_or}
use Rattle.std.proofs.lemmas.List.{map_push}
use Rattle.std.proofs.lemmas.List.Folds.{find-append}
use Rattle.std.proofs.lemmas.List.Sums.{sum_by-cons, sum_by_push}
use Rattle.std.proofs.lemmas.Option.{none-some}
use Rattle.status_rewrites.specs.declared.tracker.Pair.{Pair}
use Rattle.status_rewrites.specs.AfterRewrites.{pair_to, pairs_of}
use Rattle.status_rewrites.specs.Parts.{renames_from, copies_from, pairs_to}
use Rattle.status_rewrites.proofs.Gets.{or_none}

module _ (ps : List Pair) (p : Pair) where
  pub goes_push : (i : ℕ) → renames_from (ps ++ p ∷ []) i ≡ renames_from ps i + cond (p.source == i && not p.copy) 1 0
  goes_push i = sum_by_push (λ (q : Pair). cond (q.source == i && not q.copy) 1 0) ps p

  pub copied_push : (i : ℕ) → copies_from (ps ++ p ∷ []) i ≡ copies_from ps i + cond (p.source == i && p.copy) 1 0
  copied_push i = sum_by_push (λ (q : Pair). cond (q.source == i && q.copy) 1 0) ps p

  pub comes_push : (i : ℕ) → pairs_to (ps ++ p ∷ []) i ≡ pairs_to ps i + cond (p.destination == i) 1 0
  comes_push i = sum_by_push (λ (q : Pair). cond (q.destination == i) 1 0) ps p

  pub goes_elsewhere : (i : ℕ) → (p.source == i) ≡ false → renames_from (ps ++ p ∷ []) i ≡ renames_from ps i
  goes_elsewhere i e =
      let pushed : renames_from (ps ++ p ∷ []) i ≡ renames_from ps i + 0 = goes_push i ∙ ap (λ b. renames_from ps i + cond (b && not p.copy) 1 0) e in
      omega (arith, pushed)

  pub copied_elsewhere : (i : ℕ) → (p.source == i) ≡ false → copies_from (ps ++ p ∷ []) i ≡ copies_from ps i
  copied_elsewhere i e =
      let pushed : copies_from (ps ++ p ∷ []) i ≡ copies_from ps i + 0 = copied_push i ∙ ap (λ b. copies_from ps i + cond (b && p.copy) 1 0) e in
      omega (arith, pushed)

  pub comes_elsewhere : (i : ℕ) → (p.destination == i) ≡ false → pairs_to (ps ++ p ∷ []) i ≡ pairs_to ps i
  comes_elsewhere i e =
      let pushed : pairs_to (ps ++ p ∷ []) i ≡ pairs_to ps i + 0 = comes_push i ∙ ap (λ b. pairs_to ps i + cond b 1 0) e in
      omega (arith, pushed)

  pub goes_there : (c : Bool) → p.copy ≡ c → renames_from (ps ++ p ∷ []) p.source ≡ renames_from ps p.source + cond (not c) 1 0
  goes_there c e =
      goes_push p.source
      ∙ ap (λ b. renames_from ps p.source + cond (b && not p.copy) 1 0) (eq-eqb p.source p.source refl)
      ∙ ap (λ b. renames_from ps p.source + cond (not b) 1 0) e

  pub copied_there : (c : Bool) → p.copy ≡ c → copies_from (ps ++ p ∷ []) p.source ≡ copies_from ps p.source + cond c 1 0
  copied_there c e =
      copied_push p.source
      ∙ ap (λ b. copies_from ps p.source + cond (b && p.copy) 1 0) (eq-eqb p.source p.source refl)
      ∙ ap (λ b. copies_from ps p.source + cond b 1 0) e

  pub comes_there : pairs_to (ps ++ p ∷ []) p.destination ≡ pairs_to ps p.destination + 1
  comes_there =
      comes_push p.destination
      ∙ ap (λ b. pairs_to ps p.destination + cond b 1 0) (eq-eqb p.destination p.destination refl)

module _ {I : Type 0} (ms : List (Pair × I)) (p : Pair) (y : I) where
  pub pairs_push : pairs_of (ms ++ (p, y) ∷ []) ≡ pairs_of ms ++ p ∷ []
  pairs_push = map_push (λ (m : Pair × I). m.0) ms (p, y)

  coming_push : (i : ℕ) → pair_to (ms ++ (p, y) ∷ []) i ≡ option_or (pair_to ms i) (cond (p.destination == i) (Some (p, y)) None)
  coming_push i = find-append (λ (m : Pair × I). m.0.destination == i) ms ((p, y) ∷ [])

  pub coming_elsewhere : (i : ℕ) → (p.destination == i) ≡ false → pair_to (ms ++ (p, y) ∷ []) i ≡ pair_to ms i
  coming_elsewhere i e =
      coming_push i ∙ ap (λ b. option_or (pair_to ms i) (cond b (Some (p, y)) None)) e ∙ or_none (pair_to ms i)

  pub coming_there : pair_to ms p.destination ≡ None → pair_to (ms ++ (p, y) ∷ []) p.destination ≡ Some (p, y)
  coming_there none =
      coming_push p.destination
      ∙ ap (λ b. option_or (pair_to ms p.destination) (cond b (Some (p, y)) None)) (eq-eqb p.destination p.destination refl)
      ∙ ap (λ o. option_or o (Some (p, y))) none

-- No pair comes to a position exactly if the number of pairs with that destination is 0.
comes_first : (p : Pair) (ps : List Pair) (i : ℕ) (b : Bool) → (p.destination == i) ≡ b → pairs_to (p ∷ ps) i ≡ cond b 1 0 + pairs_to ps i
comes_first p ps i b e =
    sum_by-cons (λ (q : Pair). cond (q.destination == i) 1 0) p ps ∙ ap (λ t. cond t 1 0 + pairs_to ps i) e

none_comes_at : {I : Type 0} (m : Pair × I) (ms : List (Pair × I)) (i : ℕ) (b : Bool) → (m.0.destination == i) ≡ b → (pair_to ms i ≡ None → pairs_to (pairs_of ms) i ≡ 0) → cond b (Some m) (pair_to ms i) ≡ None → pairs_to (pairs_of (m ∷ ms)) i ≡ 0
none_comes_at m ms i true e before h = absurd (none-some m (sym h))
none_comes_at m ms i false e before h = omega (arith, comes_first m.0 (pairs_of ms) i false e, before h)

pub none_comes : {I : Type 0} (ms : List (Pair × I)) (i : ℕ) → pair_to ms i ≡ None → pairs_to (pairs_of ms) i ≡ 0
none_comes [] i h = refl
none_comes (m ∷ ms) i h = none_comes_at m ms i (m.0.destination == i) refl (none_comes ms i) h

none_coming_at : {I : Type 0} (m : Pair × I) (ms : List (Pair × I)) (i : ℕ) (b : Bool) → (m.0.destination == i) ≡ b → (pairs_to (pairs_of ms) i ≡ 0 → pair_to ms i ≡ None) → pairs_to (pairs_of (m ∷ ms)) i ≡ 0 → cond b (Some m) (pair_to ms i) ≡ None
none_coming_at m ms i true e before h = absurd (omega (arith, comes_first m.0 (pairs_of ms) i true e, h))
none_coming_at m ms i false e before h = before (omega (arith, comes_first m.0 (pairs_of ms) i false e, h))

pub none_coming : {I : Type 0} (ms : List (Pair × I)) (i : ℕ) → pairs_to (pairs_of ms) i ≡ 0 → pair_to ms i ≡ None
none_coming [] i h = refl
none_coming (m ∷ ms) i h = none_coming_at m ms i (m.0.destination == i) refl (none_coming ms i) h
