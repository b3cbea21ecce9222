-- The states of the list's positions, by the pairs that were applied.
use Rattle.std.proofs.Common.{◌≡◌, refl, sym, ap, ◌∙◌, ℕ, zero, suc, ◌+◌, Bool, true, false, List, [], ◌∷◌, map, Option, Some, None, option_map, slice_get, arith}
use Rattle.std.specs.List.{enumerate_from}
use Rattle.std.proofs.lemmas.Option.{none-some, same_Some}
use Rattle.status_rewrites.specs.declared.tracker.Pair.{Pair}
use Rattle.status_rewrites.specs.declared.place.Place.{Place}
use Rattle.status_rewrites.specs.AfterRewrites.{pair_to, pairs_of, item_left}
use Rattle.status_rewrites.specs.Parts.{renames_from, copies_from}
use Rattle.status_rewrites.specs.Places.{free}
use Rattle.status_rewrites.proofs.Gets.{get_each}

abbrev pub is_any : ℕ → Bool
is_any zero = false
is_any (suc n) = true

abbrev pub is_copying : {I : Type 0} → Option (Pair × I) → Bool
is_copying None = false
is_copying (Some m) = m.0.copy

-- The state of an item's position, by the numbers of its renames and copies, and by the pair that comes to it.
abbrev pub place_of : {I : Type 0} → ℕ → ℕ → Option (Pair × I) → I → Place I
place_of {I} gone made m x =
    record { item = item_left gone x; arrived = option_map (λ (n : Pair × I). n.1) m; as_copy = is_copying m; kept = is_any made }

abbrev pub place_at : {I : Type 0} → List (Pair × I) → ℕ → I → Place I
place_at ms i x = place_of (renames_from (pairs_of ms) i) (copies_from (pairs_of ms) i) (pair_to ms i) x

abbrev pub places_after : {I : Type 0} → List I → List (Pair × I) → List (Place I)
places_after {I} xs ms = map (λ (e : ℕ × I). place_at ms e.0 e.1) (enumerate_from 0 xs)

pub same_place : {I : Type 0} (g h k l : ℕ) (m n : Option (Pair × I)) (x : I) → g ≡ h → k ≡ l → m ≡ n → place_of g k m x ≡ place_of h l n x
same_place g h k l m n x eg ek em =
    ap (λ t. place_of t k m x) eg ∙ ap (λ t. place_of h t m x) ek ∙ ap (λ t. place_of h l t x) em

module _ {I : Type 0} (xs : List I) (ms : List (Pair × I)) where
  pub get_place : (i : ℕ) → slice_get (places_after xs ms) i ≡ option_map (λ (x : I). place_at ms i x) (slice_get xs i)
  get_place i = get_each (λ (e : ℕ × I). place_at ms e.0 e.1) 0 xs i i (omega arith)

  pub place_there : (i : ℕ) (x : I) → slice_get xs i ≡ Some x → slice_get (places_after xs ms) i ≡ Some (place_at ms i x)
  place_there i x h = get_place i ∙ ap (option_map (λ (z : I). place_at ms i z)) h

  item_there_at : (i : ℕ) (a : Place I) (o : Option I) → slice_get xs i ≡ o → option_map (λ (x : I). place_at ms i x) o ≡ Some a → (x : I) × (slice_get xs i ≡ Some x) × (place_at ms i x ≡ a)
  item_there_at i a None e h = absurd (none-some a h)
  item_there_at i a (Some x) e h = (x, e, same_Some (place_at ms i x) a h)

  -- A position with a state has an item.
  pub item_there : (i : ℕ) (a : Place I) → slice_get (places_after xs ms) i ≡ Some a → (x : I) × (slice_get xs i ≡ Some x) × (place_at ms i x ≡ a)
  item_there i a h = item_there_at i a (slice_get xs i) refl (sym (get_place i) ∙ h)

free_from : {I : Type 0} (n : ℕ) (xs : List I) → map free xs ≡ map (λ (e : ℕ × I). place_at [] e.0 e.1) (enumerate_from n xs)
free_from n [] = refl
free_from n (x ∷ xs) = ap (λ ys. free x ∷ ys) (free_from (n + 1) xs)

-- The states before any pair.
pub places_free : {I : Type 0} (xs : List I) → map free xs ≡ places_after xs []
places_free xs = free_from 0 xs
