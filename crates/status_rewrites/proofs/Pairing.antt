-- One more pair that leaves the pairs lawful.
use Rattle.std.proofs.Common.{◌≡◌, refl, sym, ap, subst, ◌∙◌, ℕ, suc, ◌+◌, ◌<◌, ◌==◌, ◌&&◌, ◌⊎◌, inl, inr, Bool, true, false, cond, not, List, [], ◌∷◌, ◌++◌, length, map, sum_by, All, Option, Some, None, slice_get, slice_set, get_or, take, ne_eqb, arith}
use Rattle.std.proofs.lemmas.Bool.{false≢true, not-true, eqb-false, and_parts, cases_eq}
use Rattle.std.proofs.lemmas.List.{take_more}
use Rattle.std.proofs.lemmas.List.Elements.{All-nil, All-push}
use Rattle.std.proofs.lemmas.Option.{same_Some, slice_get_within}
use Rattle.status_rewrites.specs.declared.tracker.Pair.{Pair}
use Rattle.status_rewrites.specs.declared.place.Place.{Place}
use Rattle.status_rewrites.specs.AfterRewrites.{IsMovedItem, Brings, pair_to, pairs_of, item_left}
use Rattle.status_rewrites.specs.Lawful.{IsLawfulAt, AreLawful}
use Rattle.status_rewrites.specs.Parts.{renames_from, copies_from, pairs_to}
use Rattle.status_rewrites.specs.Places.{free, passes, is_free, may_go, fits, left_by, reached_by, AreOf, IsPaired}
use Rattle.status_rewrites.proofs.Counting.{goes_there, goes_elsewhere, copied_there, copied_elsewhere, comes_there, comes_elsewhere, pairs_push, coming_there, coming_elsewhere, none_comes}
use Rattle.status_rewrites.proofs.Gets.{same_gets, get_set_same, get_set_other, option_agree}
use Rattle.status_rewrites.proofs.Placing.{place_of, place_at, places_after, same_place, get_place, place_there, item_there, places_free}
use Rattle.status_rewrites.proofs.Room.{when_free, when_goes}
use Rattle.status_rewrites.proofs.Weights.{weight, free_weighs, alone_weighs, left_weighs, reached_weighs, set_weighs}

-- The states after these pairs, which break no rule.
pub record HasPaired {I : Type 0} (removed walked : I → Bool) (is_made_of : I → I → Type 0) (xs : List I) (ps : List Pair) (places : List (Place I)) : Type 0 where
  pub lawful : AreLawful removed walked xs ps
  pub moves : List (Pair × I)
  pub moves_are : pairs_of moves ≡ ps
  pub bring : All (Brings is_made_of xs) moves
  pub places_are : places ≡ places_after xs moves
  pub bag : (f : I → ℕ) → sum_by (weight f) places ≡ sum_by f xs

-- There is room for one more pair.
pub record HasRoom {I : Type 0} (removed walked : I → Bool) (xs : List I) (ms : List (Pair × I)) (p : Pair) : Type 0 where
  pub from : I
  pub from_is : slice_get xs p.source ≡ Some from
  pub onto : I
  pub onto_is : slice_get xs p.destination ≡ Some onto
  pub two : p.source ≡ p.destination → ⊥
  pub from_stays : renames_from (pairs_of ms) p.source ≡ 0
  pub from_alone : pair_to ms p.source ≡ None
  pub from_renamed : p.copy ≡ false → (copies_from (pairs_of ms) p.source ≡ 0) × (removed from ≡ true)
  pub onto_stays : renames_from (pairs_of ms) p.destination ≡ 0
  pub onto_uncopied : copies_from (pairs_of ms) p.destination ≡ 0
  pub onto_alone : pair_to ms p.destination ≡ None
  pub onto_walked : walked onto ≡ true

passes_there : {X : Type 0} (test : X → Bool) (o : Option X) → passes test o ≡ true → (a : X) × (o ≡ Some a) × (test a ≡ true)
passes_there test None h = absurd (false≢true h)
passes_there test (Some a) h = (a, refl, h)

pub room_when_fits : {I : Type 0} (removed walked : I → Bool) (xs : List I) (ms : List (Pair × I)) (p : Pair) → fits removed walked (places_after xs ms) p ≡ true → HasRoom removed walked xs ms p
room_when_fits removed walked xs ms p h =
    let places = places_after xs ms in
    let outer = and_parts (not (p.source == p.destination) && passes (may_go removed p.copy) (slice_get places p.source)) (passes (is_free walked) (slice_get places p.destination)) h in
    let inner = and_parts (not (p.source == p.destination)) (passes (may_go removed p.copy) (slice_get places p.source)) outer.0 in
    let a = passes_there (may_go removed p.copy) (slice_get places p.source) inner.1 in
    let b = passes_there (is_free walked) (slice_get places p.destination) outer.1 in
    let x = item_there xs ms p.source a.0 a.1 in
    let z = item_there xs ms p.destination b.0 b.1 in
    let begins = when_goes removed p.copy (renames_from (pairs_of ms) p.source) (copies_from (pairs_of ms) p.source) (pair_to ms p.source) x.0 (ap (may_go removed p.copy) x.2 ∙ a.2) in
    let ends = when_free walked (renames_from (pairs_of ms) p.destination) (copies_from (pairs_of ms) p.destination) (pair_to ms p.destination) z.0 (ap (is_free walked) z.2 ∙ b.2) in
    record {
      from = x.0;
      from_is = x.1;
      onto = z.0;
      onto_is = z.1;
      two = eqb-false p.source p.destination (not-true (p.source == p.destination) inner.0);
      from_stays = begins.0;
      from_alone = begins.1;
      from_renamed = begins.2;
      onto_stays = ends.0;
      onto_uncopied = ends.1;
      onto_alone = ends.2;
      onto_walked = ends.3;
    }

module _ {I : Type 0} (removed walked : I → Bool) (x : I) where
  pub lawful_gone : removed x ≡ true → IsLawfulAt removed walked x 1 0 0
  lawful_gone h = record {
    one_goes = omega arith;
    one_comes = omega arith;
    goes_removed = λ n. h;
    comes_walked = λ n. absurd (omega (arith, n));
    copied_alone = λ n. absurd (omega (arith, n));
  }

  pub lawful_made : (k : ℕ) → IsLawfulAt removed walked x 0 0 k
  lawful_made k = record {
    one_goes = omega arith;
    one_comes = omega arith;
    goes_removed = λ n. absurd (omega (arith, n));
    comes_walked = λ n. absurd (omega (arith, n));
    copied_alone = λ n. (refl, refl);
  }

  pub lawful_reached : walked x ≡ true → IsLawfulAt removed walked x 0 1 0
  lawful_reached h = record {
    one_goes = omega arith;
    one_comes = omega arith;
    goes_removed = λ n. absurd (omega (arith, n));
    comes_walked = λ n. h;
    copied_alone = λ n. absurd (omega (arith, n));
  }

  pub lawful_same : (g h c d k l : ℕ) → g ≡ h → c ≡ d → k ≡ l → IsLawfulAt removed walked x h d l → IsLawfulAt removed walked x g c k
  lawful_same g h c d k l eg ec ek w =
      subst (λ n. IsLawfulAt removed walked x n c k) (sym eg)
      (subst (λ n. IsLawfulAt removed walked x h n k) (sym ec) (subst (λ n. IsLawfulAt removed walked x h d n) (sym ek) w))

-- The amount that leaves the source comes to the destination.
balanced : (s0 s1 s2 a b c d x z l r : ℕ) → s1 + a ≡ s0 + b → s2 + c ≡ s1 + d → a ≡ x → b ≡ l → c ≡ z → d ≡ r + z → l + r ≡ x → s2 ≡ s0
balanced s0 s1 s2 a b c d x z l r first second ea eb ec ed moved = omega (arith, first, second, ea, eb, ec, ed, moved)

module _ {I : Type 0} (removed walked : I → Bool) (xs : List I) (ms : List (Pair × I)) (p : Pair) (old : AreLawful removed walked xs (pairs_of ms)) (room : HasRoom removed walked xs ms p) where
  abbrev Plays : ℕ → I → Type 0
  Plays i x =
      IsLawfulAt removed walked x (renames_from (pairs_of ms ++ p ∷ []) i) (pairs_to (pairs_of ms ++ p ∷ []) i) (copies_from (pairs_of ms ++ p ∷ []) i)

  not_onto : (p.destination == p.source) ≡ false
  not_onto = ne_eqb p.destination p.source (λ e. room.two (sym e))

  not_from : (p.source == p.destination) ≡ false
  not_from = ne_eqb p.source p.destination room.two

  from_reached : pairs_to (pairs_of ms ++ p ∷ []) p.source ≡ 0
  from_reached = comes_elsewhere (pairs_of ms) p p.source not_onto ∙ none_comes ms p.source room.from_alone

  from_plays : (c : Bool) → p.copy ≡ c → Plays p.source room.from
  from_plays true e =
      let none : renames_from (pairs_of ms ++ p ∷ []) p.source ≡ 0 = omega (arith, goes_there (pairs_of ms) p true e, room.from_stays) in
      lawful_same removed walked room.from _ 0 _ 0 _ _ none from_reached refl (lawful_made removed walked room.from _)
  from_plays false e =
      let one : renames_from (pairs_of ms ++ p ∷ []) p.source ≡ 1 = omega (arith, goes_there (pairs_of ms) p false e, room.from_stays) in
      let none : copies_from (pairs_of ms ++ p ∷ []) p.source ≡ 0 = omega (arith, copied_there (pairs_of ms) p false e, (room.from_renamed e).0) in
      lawful_same removed walked room.from _ 1 _ 0 _ 0 one from_reached none (lawful_gone removed walked room.from (room.from_renamed e).1)

  onto_plays : Plays p.destination room.onto
  onto_plays =
      let one : pairs_to (pairs_of ms ++ p ∷ []) p.destination ≡ 1 = omega (arith, comes_there (pairs_of ms) p, none_comes ms p.destination room.onto_alone) in
      lawful_same removed walked room.onto _ 0 _ 1 _ 0
      (goes_elsewhere (pairs_of ms) p p.destination not_from ∙ room.onto_stays) one
      (copied_elsewhere (pairs_of ms) p p.destination not_from ∙ room.onto_uncopied)
      (lawful_reached removed walked room.onto room.onto_walked)

  each_plays : (i : ℕ) (x : I) → slice_get xs i ≡ Some x → (i ≡ p.source) ⊎ (i ≡ p.source → ⊥) → (i ≡ p.destination) ⊎ (i ≡ p.destination → ⊥) → Plays i x
  each_plays i x h (inl e) w =
      let there : slice_get xs p.source ≡ Some x = sym (ap (slice_get xs) e) ∙ h in
      subst (λ j. Plays j x) (sym e) (subst (λ v. Plays p.source v) (same_Some room.from x (sym room.from_is ∙ there)) (from_plays p.copy refl))
  each_plays i x h (inr n) (inl e) =
      let there : slice_get xs p.destination ≡ Some x = sym (ap (slice_get xs) e) ∙ h in
      subst (λ j. Plays j x) (sym e) (subst (λ v. Plays p.destination v) (same_Some room.onto x (sym room.onto_is ∙ there)) onto_plays)
  each_plays i x h (inr n) (inr m) =
      let elsewhere : (p.source == i) ≡ false = ne_eqb p.source i (λ e. n (sym e)) in
      lawful_same removed walked x _ _ _ _ _ _
      (goes_elsewhere (pairs_of ms) p i elsewhere)
      (comes_elsewhere (pairs_of ms) p i (ne_eqb p.destination i (λ e. m (sym e))))
      (copied_elsewhere (pairs_of ms) p i elsewhere)
      (old.each i x h)

  pub lawful_more : AreLawful removed walked xs (pairs_of ms ++ p ∷ [])
  lawful_more = record {
    inside = All-push (λ (q : Pair). (q.source < length xs) × (q.destination < length xs)) (pairs_of ms) p old.inside
        (slice_get_within xs p.source room.from room.from_is, slice_get_within xs p.destination room.onto room.onto_is);
    each = λ i x h. each_plays i x h (cases_eq i p.source) (cases_eq i p.destination);
  }

  module _ (y : I) where
    abbrev next : List (Pair × I)
    next = ms ++ (p, y) ∷ []

    next_goes : (i : ℕ) → renames_from (pairs_of next) i ≡ renames_from (pairs_of ms ++ p ∷ []) i
    next_goes i = ap (λ qs. renames_from qs i) (pairs_push ms p y)

    next_copied : (i : ℕ) → copies_from (pairs_of next) i ≡ copies_from (pairs_of ms ++ p ∷ []) i
    next_copied i = ap (λ qs. copies_from qs i) (pairs_push ms p y)

    from_next : (c : Bool) → p.copy ≡ c → left_by c (place_at ms p.source room.from) ≡ place_at next p.source room.from
    from_next true e =
        let gone : renames_from (pairs_of next) p.source ≡ renames_from (pairs_of ms) p.source = omega (arith, next_goes p.source, goes_there (pairs_of ms) p true e) in
        let made : copies_from (pairs_of next) p.source ≡ suc (copies_from (pairs_of ms) p.source) = omega (arith, next_copied p.source, copied_there (pairs_of ms) p true e) in
        sym (same_place (renames_from (pairs_of next) p.source) (renames_from (pairs_of ms) p.source) (copies_from (pairs_of next) p.source) (suc (copies_from (pairs_of ms) p.source)) (pair_to next p.source) (pair_to ms p.source) room.from gone made (coming_elsewhere ms p y p.source not_onto))
    from_next false e =
        let gone : renames_from (pairs_of next) p.source ≡ suc (renames_from (pairs_of ms) p.source) = omega (arith, next_goes p.source, goes_there (pairs_of ms) p false e) in
        let made : copies_from (pairs_of next) p.source ≡ copies_from (pairs_of ms) p.source = omega (arith, next_copied p.source, copied_there (pairs_of ms) p false e) in
        sym (same_place (renames_from (pairs_of next) p.source) (suc (renames_from (pairs_of ms) p.source)) (copies_from (pairs_of next) p.source) (copies_from (pairs_of ms) p.source) (pair_to next p.source) (pair_to ms p.source) room.from gone made (coming_elsewhere ms p y p.source not_onto))

    onto_next : reached_by p.copy (Some y) (place_at ms p.destination room.onto) ≡ place_at next p.destination room.onto
    onto_next =
        sym (same_place (renames_from (pairs_of next) p.destination) (renames_from (pairs_of ms) p.destination) (copies_from (pairs_of next) p.destination) (copies_from (pairs_of ms) p.destination) (pair_to next p.destination) (Some (p, y)) room.onto
        (next_goes p.destination ∙ goes_elsewhere (pairs_of ms) p p.destination not_from)
        (next_copied p.destination ∙ copied_elsewhere (pairs_of ms) p p.destination not_from)
        (coming_there ms p y room.onto_alone))

    other_next : (i : ℕ) → (i ≡ p.source → ⊥) → (i ≡ p.destination → ⊥) → (x : I) → place_at ms i x ≡ place_at next i x
    other_next i n m x =
        let elsewhere : (p.source == i) ≡ false = ne_eqb p.source i (λ e. n (sym e)) in
        sym (same_place (renames_from (pairs_of next) i) (renames_from (pairs_of ms) i) (copies_from (pairs_of next) i) (copies_from (pairs_of ms) i) (pair_to next i) (pair_to ms i) x
        (next_goes i ∙ goes_elsewhere (pairs_of ms) p i elsewhere)
        (next_copied i ∙ copied_elsewhere (pairs_of ms) p i elsewhere)
        (coming_elsewhere ms p y i (ne_eqb p.destination i (λ e. m (sym e)))))

    -- The states after the pair: `left` at its source alone, `done` at its destination too.
    abbrev left : List (Place I)
    left = slice_set (places_after xs ms) p.source (left_by p.copy (place_at ms p.source room.from))

    abbrev done : List (Place I)
    done = slice_set left p.destination (reached_by p.copy (Some y) (place_at ms p.destination room.onto))

    onto_left : slice_get left p.destination ≡ Some (place_at ms p.destination room.onto)
    onto_left =
        get_set_other (places_after xs ms) p.source p.destination (left_by p.copy (place_at ms p.source room.from)) (λ e. room.two (sym e))
        ∙ place_there xs ms p.destination room.onto room.onto_is

    get_done : (i : ℕ) → (i ≡ p.source) ⊎ (i ≡ p.source → ⊥) → (i ≡ p.destination) ⊎ (i ≡ p.destination → ⊥) → slice_get done i ≡ slice_get (places_after xs next) i
    get_done i (inl e) w =
        let new = left_by p.copy (place_at ms p.source room.from) in
        let there : slice_get done p.source ≡ slice_get (places_after xs next) p.source =
        get_set_other left p.destination p.source (reached_by p.copy (Some y) (place_at ms p.destination room.onto)) room.two
        ∙ get_set_same (places_after xs ms) p.source (place_at ms p.source room.from) new (place_there xs ms p.source room.from room.from_is)
        ∙ ap Some (from_next p.copy refl)
        ∙ sym (place_there xs next p.source room.from room.from_is) in
        subst (λ j. slice_get done j ≡ slice_get (places_after xs next) j) (sym e) there
    get_done i (inr n) (inl e) =
        let there : slice_get done p.destination ≡ slice_get (places_after xs next) p.destination =
        get_set_same left p.destination (place_at ms p.destination room.onto) (reached_by p.copy (Some y) (place_at ms p.destination room.onto)) onto_left
        ∙ ap Some onto_next
        ∙ sym (place_there xs next p.destination room.onto room.onto_is) in
        subst (λ j. slice_get done j ≡ slice_get (places_after xs next) j) (sym e) there
    get_done i (inr n) (inr m) =
        get_set_other left p.destination i (reached_by p.copy (Some y) (place_at ms p.destination room.onto)) m
        ∙ get_set_other (places_after xs ms) p.source i (left_by p.copy (place_at ms p.source room.from)) n
        ∙ get_place xs ms i
        ∙ option_agree (λ (x : I). place_at ms i x) (λ (x : I). place_at next i x) (other_next i n m) (slice_get xs i)
        ∙ sym (get_place xs next i)

    pub done_is : done ≡ places_after xs next
    done_is = same_gets done (places_after xs next) (λ i. get_done i (cases_eq i p.source) (cases_eq i p.destination))

    module _ (is_made_of : I → I → Type 0) (of : IsMovedItem is_made_of p.copy room.from y) (f : I → ℕ) where
      moved : (c : Bool) → IsMovedItem is_made_of c room.from y → cond c (f room.from) 0 + cond c 0 (f y) ≡ f room.from
      moved true h = omega arith
      moved false h = let e : f y ≡ f room.from = ap f h in omega (arith, e)

      pub done_weighs : sum_by (weight f) done ≡ sum_by (weight f) (places_after xs ms)
      done_weighs =
          let first = set_weighs (weight f) (places_after xs ms) p.source (place_at ms p.source room.from) (left_by p.copy (place_at ms p.source room.from)) (place_there xs ms p.source room.from room.from_is) in
          let second = set_weighs (weight f) left p.destination (place_at ms p.destination room.onto) (reached_by p.copy (Some y) (place_at ms p.destination room.onto)) onto_left in
          let from_was = alone_weighs f (renames_from (pairs_of ms) p.source) (copies_from (pairs_of ms) p.source) (pair_to ms p.source) room.from room.from_stays room.from_alone in
          let from_now = left_weighs f p.copy (renames_from (pairs_of ms) p.source) (copies_from (pairs_of ms) p.source) (pair_to ms p.source) room.from room.from_stays room.from_alone in
          let onto_was = alone_weighs f (renames_from (pairs_of ms) p.destination) (copies_from (pairs_of ms) p.destination) (pair_to ms p.destination) room.onto room.onto_stays room.onto_alone in
          let onto_now = reached_weighs f p.copy y (renames_from (pairs_of ms) p.destination) (copies_from (pairs_of ms) p.destination) (pair_to ms p.destination) room.onto room.onto_stays in
          balanced _ _ _ _ _ _ _ _ _ _ _ first second from_was from_now onto_was onto_now (moved p.copy of)

some_of : {I : Type 0} (is_made_of : I → I → Type 0) (c : Bool) (x : I) (o : Option I) → AreOf is_made_of c (Some x) o → (y : I) × (o ≡ Some y) × IsMovedItem is_made_of c x y
some_of is_made_of false x o h = (x, h, refl)
some_of is_made_of true x None h = absurd h
some_of is_made_of true x (Some y) h = (y, refl, h)

item_of : {I : Type 0} (a : Place I) (g k : ℕ) (m : Option (Pair × I)) (x : I) → a ≡ place_of g k m x → g ≡ 0 → a.item ≡ Some x
item_of {I} a g k m x e none = ap (λ (b : Place I). b.item) e ∙ ap (λ n. item_left n x) none

module _ {I : Type 0} (removed walked : I → Bool) (is_made_of : I → I → Type 0) (xs : List I) (ms : List (Pair × I)) (p : Pair) (new : List (Place I)) where
  paired_next : AreLawful removed walked xs (pairs_of ms) → All (Brings is_made_of xs) ms → ((f : I → ℕ) → sum_by (weight f) (places_after xs ms) ≡ sum_by f xs) → HasRoom removed walked xs ms p → IsPaired is_made_of (places_after xs ms) p new → HasPaired removed walked is_made_of xs (pairs_of ms ++ p ∷ []) new
  paired_next old bring bag room w =
      let places = places_after xs ms in
      let from_was : w.from ≡ place_at ms p.source room.from = same_Some w.from (place_at ms p.source room.from) (sym w.from_is ∙ place_there xs ms p.source room.from room.from_is) in
      let item = item_of w.from (renames_from (pairs_of ms) p.source) (copies_from (pairs_of ms) p.source) (pair_to ms p.source) room.from from_was room.from_stays in
      let got = some_of is_made_of p.copy room.from w.brought (subst (λ o. AreOf is_made_of p.copy o w.brought) item w.brought_is) in
      let onto_was : w.onto ≡ place_at ms p.destination room.onto =
      same_Some w.onto (place_at ms p.destination room.onto)
      (sym w.onto_is ∙ get_set_other places p.source p.destination (left_by p.copy w.from) (λ e. room.two (sym e)) ∙ place_there xs ms p.destination room.onto room.onto_is) in
      let is_done : new ≡ done removed walked xs ms p old room got.0 =
      w.new_is
      ∙ ap (λ a. slice_set (slice_set places p.source (left_by p.copy a)) p.destination (reached_by p.copy w.brought w.onto)) from_was
      ∙ ap (λ o. slice_set (slice_set places p.source (left_by p.copy (place_at ms p.source room.from))) p.destination (reached_by p.copy o w.onto)) got.1
      ∙ ap (λ b. slice_set (slice_set places p.source (left_by p.copy (place_at ms p.source room.from))) p.destination (reached_by p.copy (Some got.0) b)) onto_was in
      record {
        lawful = lawful_more removed walked xs ms p old room;
        moves = ms ++ (p, got.0) ∷ [];
        moves_are = pairs_push ms p got.0;
        bring = All-push (Brings is_made_of xs) ms (p, got.0) bring (room.from, room.from_is, got.2);
        places_are = is_done ∙ done_is removed walked xs ms p old room got.0;
        bag = λ f. ap (sum_by (weight f)) is_done ∙ done_weighs removed walked xs ms p old room got.0 is_made_of got.2 f ∙ bag f;
      }

pub paired_more : {I : Type 0} (removed walked : I → Bool) (is_made_of : I → I → Type 0) (xs : List I) (ps : List Pair) (places new : List (Place I)) (p : Pair) → HasPaired removed walked is_made_of xs ps places → fits removed walked places p ≡ true → IsPaired is_made_of places p new → HasPaired removed walked is_made_of xs (ps ++ p ∷ []) new
paired_more removed walked is_made_of xs ps places new p h fit w =
    let fit_after : fits removed walked (places_after xs h.moves) p ≡ true = ap (λ at. fits removed walked at p) (sym h.places_are) ∙ fit in
    subst (λ qs. HasPaired removed walked is_made_of xs (qs ++ p ∷ []) new) h.moves_are
    (paired_next removed walked is_made_of xs h.moves p new
    (subst (λ qs. AreLawful removed walked xs qs) (sym h.moves_are) h.lawful) h.bring
    (λ f. ap (sum_by (weight f)) (sym h.places_are) ∙ h.bag f)
    (room_when_fits removed walked xs h.moves p fit_after)
    (subst (λ at. IsPaired is_made_of at p new) h.places_are w))

-- One more pair of the list.
pub paired_step : {I : Type 0} (removed walked : I → Bool) (is_made_of : I → I → Type 0) (xs : List I) (ps : List Pair) (n : ℕ) (places new : List (Place I)) (p : Pair) → n < length ps → p ≡ get_or ps n p → HasPaired removed walked is_made_of xs (take n ps) places → fits removed walked places p ≡ true → IsPaired is_made_of places p new → HasPaired removed walked is_made_of xs (take (n + 1) ps) new
paired_step removed walked is_made_of xs ps n places new p within is h fit w =
    let next : take (n + 1) ps ≡ take n ps ++ p ∷ [] = take_more ps n p within ∙ ap (λ q. take n ps ++ q ∷ []) (sym is) in
    subst (λ qs. HasPaired removed walked is_made_of xs qs new) (sym next)
    (paired_more removed walked is_made_of xs (take n ps) places new p h fit w)

pub paired_none : {I : Type 0} (removed walked : I → Bool) (is_made_of : I → I → Type 0) (xs : List I) (places : List (Place I)) → places ≡ map free xs → HasPaired removed walked is_made_of xs [] places
paired_none removed walked is_made_of xs places e = record {
  lawful = record {
    inside = All-nil (λ (q : Pair). (q.source < length xs) × (q.destination < length xs));
    each = λ i x h. lawful_made removed walked x 0;
  };
  moves = [];
  moves_are = refl;
  bring = All-nil (Brings is_made_of xs);
  places_are = e ∙ places_free xs;
  bag = λ f. ap (sum_by (weight f)) e ∙ free_weighs f xs;
}
