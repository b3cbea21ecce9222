-- A pair for which there is no room breaks a rule.
use Rattle.std.proofs.Common.{◌≡◌, refl, sym, ap, subst, ◌∙◌, ℕ, ◌+◌, ◌<◌, ◌==◌, ◌&&◌, inl, inr, Bool, true, false, cond, not, List, [], ◌∷◌, ◌++◌, length, take, Some, None, slice_get, get_or, eq-eqb, ne_eqb, arith}
use Rattle.std.proofs.lemmas.Bool.{false≢true, cases_lt, and_from}
use Rattle.std.proofs.lemmas.List.{get_or_push, length_push, take_more}
use Rattle.status_rewrites.specs.declared.tracker.Pair.{Pair}
use Rattle.status_rewrites.specs.declared.place.Place.{Place}
use Rattle.status_rewrites.specs.AfterRewrites.{pair_to, pairs_of}
use Rattle.status_rewrites.specs.Lawful.{AreLawful, IsBadPair}
use Rattle.status_rewrites.specs.Parts.{renames_from, copies_from, pairs_to}
use Rattle.status_rewrites.specs.Places.{passes, is_free, may_go, fits}
use Rattle.status_rewrites.proofs.Counting.{goes_push, goes_there, copied_push, copied_there, comes_push, comes_there, none_coming}
use Rattle.status_rewrites.proofs.Gets.{get_there}
use Rattle.status_rewrites.proofs.Pairing.{HasPaired}
use Rattle.status_rewrites.proofs.Placing.{place_at, places_after, place_there}
use Rattle.status_rewrites.proofs.Room.{free_when, copies_when}

none_from : (n : ℕ) → (0 < n → ⊥) → n ≡ 0
none_from n h = elim (cases_lt 0 n) [ inl some ↦ absurd (h some) | inr none ↦ omega (arith, none) ]

module _ {I : Type 0} (removed walked : I → Bool) (apart : (x : I) → removed x ≡ true → walked x ≡ false) (xs : List I) (ms : List (Pair × I)) (p : Pair) (lawful : AreLawful removed walked xs (pairs_of ms ++ p ∷ [])) where
  abbrev ps : List Pair
  ps = pairs_of ms

  is_inside : (p.source < length xs) × (p.destination < length xs)
  is_inside =
      subst (λ (q : Pair). (q.source < length xs) × (q.destination < length xs)) (get_or_push ps p p (length ps) refl)
      (lawful.inside (length ps) p (omega (arith, length_push ps p)))

  -- No item is both a rename's source and a destination.
  not_both : (i : ℕ) (x : I) → slice_get xs i ≡ Some x → 0 < renames_from (ps ++ p ∷ []) i → 0 < pairs_to (ps ++ p ∷ []) i → ⊥
  not_both i x h gone reached =
      let part = lawful.each i x h in
      false≢true (sym (apart x (part.goes_removed gone)) ∙ part.comes_walked reached)

  more_come : (p.source ≡ p.destination) → 0 < pairs_to (ps ++ p ∷ []) p.source
  more_come e =
      let one : pairs_to (ps ++ p ∷ []) p.source ≡ pairs_to ps p.source + 1 = comes_push ps p p.source ∙ ap (λ b. pairs_to ps p.source + cond b 1 0) (eq-eqb p.destination p.source (sym e)) in
      omega (arith, one)

  two_at : (c : Bool) → p.copy ≡ c → (x : I) → slice_get xs p.source ≡ Some x → p.source ≡ p.destination → ⊥
  two_at true e x h same_place =
      let part = lawful.each p.source x h in
      let alone = part.copied_alone (omega (arith, copied_there ps p true e)) in
      omega (arith, alone.1, more_come same_place)
  two_at false e x h same_place =
      not_both p.source x h (omega (arith, goes_there ps p false e)) (more_come same_place)

  fewer_come : (i : ℕ) → pairs_to (ps ++ p ∷ []) i ≡ 0 → pair_to ms i ≡ None
  fewer_come i h = none_coming ms i (omega (arith, comes_push ps p i, h))

  source_goes : (c : Bool) → p.copy ≡ c → (x : I) → slice_get xs p.source ≡ Some x → may_go removed c (place_at ms p.source x) ≡ true
  source_goes true e x h =
      let part = lawful.each p.source x h in
      let alone = part.copied_alone (omega (arith, copied_there ps p true e)) in
      copies_when removed (renames_from ps p.source) (copies_from ps p.source) (pair_to ms p.source) x
      (omega (arith, goes_there ps p true e, alone.0)) (fewer_come p.source alone.1)
  source_goes false e x h =
      let part = lawful.each p.source x h in
      let gone : 0 < renames_from (ps ++ p ∷ []) p.source = omega (arith, goes_there ps p false e) in
      let unmade : copies_from (ps ++ p ∷ []) p.source ≡ 0 = none_from (copies_from (ps ++ p ∷ []) p.source) (λ some. omega (arith, gone, (part.copied_alone some).0)) in
      let unreached : pairs_to (ps ++ p ∷ []) p.source ≡ 0 = none_from (pairs_to (ps ++ p ∷ []) p.source) (λ some. not_both p.source x h gone some) in
      free_when removed (renames_from ps p.source) (copies_from ps p.source) (pair_to ms p.source) x
      (omega (arith, goes_there ps p false e, part.one_goes)) (omega (arith, copied_push ps p p.source, unmade)) (fewer_come p.source unreached) (part.goes_removed gone)

  destination_free : (x : I) → slice_get xs p.destination ≡ Some x → is_free walked (place_at ms p.destination x) ≡ true
  destination_free x h =
      let part = lawful.each p.destination x h in
      let reached : 0 < pairs_to (ps ++ p ∷ []) p.destination = omega (arith, comes_there ps p) in
      let ungone : renames_from (ps ++ p ∷ []) p.destination ≡ 0 = none_from (renames_from (ps ++ p ∷ []) p.destination) (λ some. not_both p.destination x h some reached) in
      let unmade : copies_from (ps ++ p ∷ []) p.destination ≡ 0 = none_from (copies_from (ps ++ p ∷ []) p.destination) (λ some. omega (arith, reached, (part.copied_alone some).1)) in
      let unreached : pairs_to ps p.destination ≡ 0 = omega (arith, comes_there ps p, part.one_comes) in
      free_when walked (renames_from ps p.destination) (copies_from ps p.destination) (pair_to ms p.destination) x
      (omega (arith, goes_push ps p p.destination, ungone)) (omega (arith, copied_push ps p p.destination, unmade)) (none_coming ms p.destination unreached) (part.comes_walked reached)

  pub fits_when_lawful : fits removed walked (places_after xs ms) p ≡ true
  fits_when_lawful =
      let places = places_after xs ms in
      let x = get_there xs p.source is_inside.0 in
      let z = get_there xs p.destination is_inside.1 in
      let apart_places : not (p.source == p.destination) ≡ true = ap not (ne_eqb p.source p.destination (two_at p.copy refl x.0 x.1)) in
      let begins : passes (may_go removed p.copy) (slice_get places p.source) ≡ true =
      ap (passes (may_go removed p.copy)) (place_there xs ms p.source x.0 x.1) ∙ source_goes p.copy refl x.0 x.1 in
      let ends : passes (is_free walked) (slice_get places p.destination) ≡ true =
      ap (passes (is_free walked)) (place_there xs ms p.destination z.0 z.1) ∙ destination_free z.0 z.1 in
      and_from (not (p.source == p.destination) && passes (may_go removed p.copy) (slice_get places p.source)) (passes (is_free walked) (slice_get places p.destination))
      (and_from (not (p.source == p.destination)) (passes (may_go removed p.copy) (slice_get places p.source)) apart_places begins) ends

-- The first pair for which there is no room is the first bad one.
pub bad_pair : {I : Type 0} (removed walked : I → Bool) (apart : (x : I) → removed x ≡ true → walked x ≡ false) (is_made_of : I → I → Type 0) (xs : List I) (ps : List Pair) (n : ℕ) (places : List (Place I)) (p : Pair) → n < length ps → p ≡ get_or ps n p → HasPaired removed walked is_made_of xs (take n ps) places → fits removed walked places p ≡ false → IsBadPair removed walked xs ps n
bad_pair removed walked apart is_made_of xs ps n places p within is h unfit = record {
  within = within;
  before = h.lawful;
  broken = λ lawful.
      let next : take (n + 1) ps ≡ pairs_of h.moves ++ p ∷ [] =
      take_more ps n p within ∙ ap (λ q. take n ps ++ q ∷ []) (sym is) ∙ ap (λ qs. qs ++ p ∷ []) (sym h.moves_are) in
      let room = fits_when_lawful removed walked apart xs h.moves p (subst (λ qs. AreLawful removed walked xs qs) next lawful) in
      false≢true (sym unfit ∙ ap (λ at. fits removed walked at p) h.places_are ∙ room);
}
