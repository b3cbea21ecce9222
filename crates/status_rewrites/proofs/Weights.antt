-- Sums over the items at the list's positions.
use Rattle.std.proofs.Common.{◌≡◌, refl, sym, ap, ◌∙◌, ℕ, ◌+◌, Bool, true, false, cond, List, [], ◌∷◌, map, flat_map, sum_by, Option, Some, None, slice_get, slice_set, arith}
use Rattle.std.proofs.lemmas.List.Concat.{flat_map-append}
use Rattle.std.proofs.lemmas.List.Sums.{sum_by-append, sum_by-cons, sum_by-set}
use Rattle.std.proofs.lemmas.Option.{get_or_from_slice_get, slice_get_within}
use Rattle.status_rewrites.specs.declared.tracker.Pair.{Pair}
use Rattle.status_rewrites.specs.declared.place.Place.{Place}
use Rattle.status_rewrites.specs.declared.rewrites.Rewritten.TheVariants.{Rewrite}
use Rattle.status_rewrites.specs.AfterRewrites.{parts}
use Rattle.status_rewrites.specs.Places.{free, left_by, reached_by, standing_in}
use Rattle.status_rewrites.proofs.Placing.{place_of}

-- The sum over the items of a position's entries.
abbrev pub weight : {I : Type 0} → (I → ℕ) → Place I → ℕ
weight f a = sum_by f (flat_map parts (standing_in a))

module _ {I : Type 0} (f : I → ℕ) where
  pub all_weigh : (places : List (Place I)) → sum_by f (flat_map parts (flat_map standing_in places)) ≡ sum_by (weight f) places
  all_weigh [] = refl
  all_weigh (a ∷ rest) =
      ap (sum_by f) (flat_map-append parts (standing_in a) (flat_map standing_in rest))
      ∙ sum_by-append f (flat_map parts (standing_in a)) (flat_map parts (flat_map standing_in rest))
      ∙ ap (λ n. weight f a + n) (all_weigh rest)
      ∙ sym (sum_by-cons (weight f) a rest)

  one_weighs : (x : I) → sum_by f (x ∷ []) ≡ f x
  one_weighs x = let one : sum_by f (x ∷ []) ≡ f x + 0 = sum_by-cons f x [] in omega (arith, one)

  pub free_weighs : (xs : List I) → sum_by (weight f) (map free xs) ≡ sum_by f xs
  free_weighs [] = refl
  free_weighs (x ∷ xs) =
      sum_by-cons (weight f) (free x) (map free xs)
      ∙ ap (λ n. n + sum_by (weight f) (map free xs)) (one_weighs x)
      ∙ ap (λ n. f x + n) (free_weighs xs)
      ∙ sym (sum_by-cons f x xs)

  alone_weighs_at : (k : ℕ) (x : I) → weight f (place_of 0 k None x) ≡ f x
  alone_weighs_at k x = one_weighs x

  pub alone_weighs : (g k : ℕ) (m : Option (Pair × I)) (x : I) → g ≡ 0 → m ≡ None → weight f (place_of g k m x) ≡ f x
  alone_weighs g k m x eg em =
      ap (λ t. weight f (place_of t k m x)) eg ∙ ap (λ t. weight f (place_of 0 k t x)) em ∙ alone_weighs_at k x

  pair_weighs : (c : Bool) (x y : I) → sum_by f (flat_map parts (Rewrite y x c ∷ [])) ≡ cond c 0 (f y) + f x
  pair_weighs true x y = let one : sum_by f (x ∷ []) ≡ f x = one_weighs x in omega (arith, one)
  pair_weighs false x y =
      sum_by-cons f y (x ∷ []) ∙ ap (λ n. f y + n) (one_weighs x)

  pub reached_weighs : (c : Bool) (y : I) (g k : ℕ) (m : Option (Pair × I)) (x : I) → g ≡ 0 → weight f (reached_by c (Some y) (place_of g k m x)) ≡ cond c 0 (f y) + f x
  reached_weighs c y g k m x eg =
      ap (λ t. weight f (reached_by c (Some y) (place_of t k m x))) eg ∙ pair_weighs c x y

  left_weighs_at : (c : Bool) (k : ℕ) (x : I) → weight f (left_by c (place_of 0 k None x)) ≡ cond c (f x) 0
  left_weighs_at true k x = one_weighs x
  left_weighs_at false k x = refl

  pub left_weighs : (c : Bool) (g k : ℕ) (m : Option (Pair × I)) (x : I) → g ≡ 0 → m ≡ None → weight f (left_by c (place_of g k m x)) ≡ cond c (f x) 0
  left_weighs c g k m x eg em =
      ap (λ t. weight f (left_by c (place_of t k m x))) eg
      ∙ ap (λ t. weight f (left_by c (place_of 0 k t x))) em
      ∙ left_weighs_at c k x

-- The state of one position is replaced.
pub set_weighs : {A : Type 0} (w : A → ℕ) (xs : List A) (i : ℕ) (a b : A) → slice_get xs i ≡ Some a → sum_by w (slice_set xs i b) + w a ≡ sum_by w xs + w b
set_weighs w xs i a b h =
    ap (λ z. sum_by w (slice_set xs i b) + w z) (sym (get_or_from_slice_get xs i a a h)) ∙ sum_by-set w xs i b a (slice_get_within xs i a h)
