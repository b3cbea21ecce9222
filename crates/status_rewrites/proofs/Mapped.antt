-- Rewrites of a list whose items are mapped.
use Rattle.std.proofs.Common.{◌≡◌, refl, sym, ap, subst, ◌∙◌, ℕ, zero, suc, ◌+◌, ◌<◌, ◌==◌, Bool, true, false, cond, List, [], ◌∷◌, ◌++◌, map, take, Option, Some, None, option_map, slice_get, get_or, flat_map, sum_by}
use Rattle.std.specs.List.{All, enumerate_from}
use Rattle.std.proofs.lemmas.List.{length-map, map-append}
use Rattle.std.proofs.lemmas.List.Elements.{All-map}
use Rattle.std.proofs.lemmas.List.Sums.{sum_by-cons}
use Rattle.std.proofs.lemmas.Option.{none-some, same_Some, slice_get-map}
use Rattle.status_rewrites.specs.declared.tracker.Pair.{Pair}
use Rattle.status_rewrites.specs.declared.rewrites.Rewritten.{Rewritten}
use Rattle.status_rewrites.specs.declared.rewrites.Rewritten.TheVariants.{Alone, Rewrite}
use Rattle.status_rewrites.specs.AfterRewrites.{IsMovedItem, Brings, IsRewritten, pair_to, pairs_of, parts, entries_here, item_left}
use Rattle.status_rewrites.specs.Entries.{map_rewritten}
use Rattle.status_rewrites.specs.Lawful.{IsLawfulAt, AreLawful, IsBadPair}
use Rattle.status_rewrites.specs.Parts.{renames_from, copies_from, pairs_to}

module _ {I J : Type 0} (f : I → J) where
  abbrev mapped_move : Pair × I → Pair × J
  mapped_move m = (m.0, f m.1)

  pairs_mapped : (ms : List (Pair × I)) → pairs_of (map mapped_move ms) ≡ pairs_of ms
  pairs_mapped [] = refl
  pairs_mapped (m ∷ ms) = ap (λ ps. m.0 ∷ ps) (pairs_mapped ms)

  coming_step : (b : Bool) (m : Pair × I) (o : Option (Pair × I)) → cond b (Some (mapped_move m)) (option_map mapped_move o) ≡ option_map mapped_move (cond b (Some m) o)
  coming_step true m o = refl
  coming_step false m o = refl

  coming_mapped : (ms : List (Pair × I)) (i : ℕ) → pair_to (map mapped_move ms) i ≡ option_map mapped_move (pair_to ms i)
  coming_mapped [] i = refl
  coming_mapped (m ∷ ms) i =
      ap (λ o. cond (m.0.destination == i) (Some (mapped_move m)) o) (coming_mapped ms i)
      ∙ coming_step (m.0.destination == i) m (pair_to ms i)

  staying_mapped : (n : ℕ) (x : I) → item_left n (f x) ≡ option_map f (item_left n x)
  staying_mapped zero x = refl
  staying_mapped (suc n) x = refl

  standing_mapped : (o : Option I) (m : Option (Pair × I)) → entries_here (option_map f o) (option_map mapped_move m) ≡ map (map_rewritten f) (entries_here o m)
  standing_mapped None m = refl
  standing_mapped (Some x) None = refl
  standing_mapped (Some x) (Some m) = refl

  module _ (ms : List (Pair × I)) where
    -- The entries at a position.
    abbrev before : ℕ × I → List (Rewritten I)
    before e = entries_here (item_left (renames_from (pairs_of ms) e.0) e.1) (pair_to ms e.0)

    abbrev behind : ℕ × J → List (Rewritten J)
    behind e = entries_here (item_left (renames_from (pairs_of (map mapped_move ms)) e.0) e.1) (pair_to (map mapped_move ms) e.0)

    each_mapped : (i : ℕ) (x : I) → behind (i, f x) ≡ map (map_rewritten f) (before (i, x))
    each_mapped i x =
        ap (λ ps. entries_here (item_left (renames_from ps i) (f x)) (pair_to (map mapped_move ms) i)) (pairs_mapped ms)
        ∙ ap (λ m. entries_here (item_left (renames_from (pairs_of ms) i) (f x)) m) (coming_mapped ms i)
        ∙ ap (λ o. entries_here o (option_map mapped_move (pair_to ms i))) (staying_mapped (renames_from (pairs_of ms) i) x)
        ∙ standing_mapped (item_left (renames_from (pairs_of ms) i) x) (pair_to ms i)

    all_mapped : (n : ℕ) (xs : List I) → flat_map behind (enumerate_from n (map f xs)) ≡ map (map_rewritten f) (flat_map before (enumerate_from n xs))
    all_mapped n [] = refl
    all_mapped n (x ∷ xs) =
        ap (λ es. es ++ flat_map behind (enumerate_from (n + 1) (map f xs))) (each_mapped n x)
        ∙ ap (λ es. map (map_rewritten f) (before (n, x)) ++ es) (all_mapped (n + 1) xs)
        ∙ sym (map-append (map_rewritten f) (before (n, x)) (flat_map before (enumerate_from (n + 1) xs)))

  parts_mapped : (e : Rewritten I) → parts (map_rewritten f e) ≡ map f (parts e)
  parts_mapped (Alone x) = refl
  parts_mapped (Rewrite x y true) = refl
  parts_mapped (Rewrite x y false) = refl

  all_parts_mapped : (es : List (Rewritten I)) → flat_map parts (map (map_rewritten f) es) ≡ map f (flat_map parts es)
  all_parts_mapped [] = refl
  all_parts_mapped (e ∷ es) =
      ap (λ xs. xs ++ flat_map parts (map (map_rewritten f) es)) (parts_mapped e)
      ∙ ap (λ xs. map f (parts e) ++ xs) (all_parts_mapped es)
      ∙ sym (map-append f (parts e) (flat_map parts es))

  sum_mapped : (h : J → ℕ) (xs : List I) → sum_by h (map f xs) ≡ sum_by (λ (x : I). h (f x)) xs
  sum_mapped h [] = refl
  sum_mapped h (x ∷ xs) =
      sum_by-cons h (f x) (map f xs) ∙ ap (λ n. h (f x) + n) (sum_mapped h xs) ∙ sym (sum_by-cons (λ (z : I). h (f z)) x xs)

  there_mapped : (xs : List I) (i : ℕ) (x : I) → slice_get xs i ≡ Some x → slice_get (map f xs) i ≡ Some (f x)
  there_mapped xs i x h = slice_get-map f xs i ∙ ap (option_map f) h

  there_from_at : (o : Option I) (y : J) → option_map f o ≡ Some y → (x : I) × (o ≡ Some x) × (f x ≡ y)
  there_from_at None y h = absurd (none-some y h)
  there_from_at (Some x) y h = (x, refl, same_Some (f x) y h)

  there_from : (xs : List I) (i : ℕ) (y : J) → slice_get (map f xs) i ≡ Some y → (x : I) × (slice_get xs i ≡ Some x) × (f x ≡ y)
  there_from xs i y h = there_from_at (slice_get xs i) y (sym (slice_get-map f xs i) ∙ h)

  module _ (is_made_of : I → I → Type 0) (made : (x y : I) → is_made_of x y → f y ≡ f x) (xs : List I) where
    of_mapped : (c : Bool) (x y : I) → IsMovedItem is_made_of c x y → IsMovedItem (λ (u v : J). v ≡ u) c (f x) (f y)
    of_mapped true x y h = made x y h
    of_mapped false x y h = ap f h

    brings_mapped : (m : Pair × I) → Brings is_made_of xs m → Brings (λ (u v : J). v ≡ u) (map f xs) (mapped_move m)
    brings_mapped m h = (f h.0, there_mapped xs m.0.source h.0 h.1, of_mapped m.0.copy h.0 m.1 h.2)

    -- The mapped entries are the rewrites of the mapped items, if a copy is mapped to the same value as its original.
    pub is_rewritten_mapped : (ps : List Pair) (entries : List (Rewritten I)) → IsRewritten is_made_of xs ps entries → IsRewritten (λ (u v : J). v ≡ u) (map f xs) ps (map (map_rewritten f) entries)
    is_rewritten_mapped ps entries h = record {
      moves = map mapped_move h.moves;
      moves_are = pairs_mapped h.moves ∙ h.moves_are;
      bring = All-map (Brings (λ (u v : J). v ≡ u) (map f xs)) mapped_move h.moves (λ i d within. brings_mapped (get_or h.moves i d) (h.bring i d within));
      entries_are = ap (map (map_rewritten f)) h.entries_are ∙ sym (all_mapped h.moves 0 xs);
      bag = λ w.
          ap (sum_by w) (all_parts_mapped entries)
          ∙ sum_mapped w (flat_map parts entries)
          ∙ h.bag (λ (x : I). w (f x))
          ∙ sym (sum_mapped w xs);
    }

  module _ (removed walked : I → Bool) (removed_after walked_after : J → Bool) (same_removed : (x : I) → removed x ≡ removed_after (f x)) (same_walked : (x : I) → walked x ≡ walked_after (f x)) (xs : List I) where
    lawful_at : (x : I) (gone reached made : ℕ) → IsLawfulAt removed walked x gone reached made → IsLawfulAt removed_after walked_after (f x) gone reached made
    lawful_at x gone reached made h = record {
      one_goes = h.one_goes;
      one_comes = h.one_comes;
      goes_removed = λ some. sym (same_removed x) ∙ h.goes_removed some;
      comes_walked = λ some. sym (same_walked x) ∙ h.comes_walked some;
      copied_alone = h.copied_alone;
    }

    lawful_from_at : (x : I) (gone reached made : ℕ) → IsLawfulAt removed_after walked_after (f x) gone reached made → IsLawfulAt removed walked x gone reached made
    lawful_from_at x gone reached made h = record {
      one_goes = h.one_goes;
      one_comes = h.one_comes;
      goes_removed = λ some. same_removed x ∙ h.goes_removed some;
      comes_walked = λ some. same_walked x ∙ h.comes_walked some;
      copied_alone = h.copied_alone;
    }

    pub lawful_mapped : (ps : List Pair) → AreLawful removed walked xs ps → AreLawful removed_after walked_after (map f xs) ps
    lawful_mapped ps h = record {
      inside = subst (λ n. All (λ (p : Pair). (p.source < n) × (p.destination < n)) ps) (sym (length-map xs f)) h.inside;
      each = λ i y here.
          let was = there_from xs i y here in
          subst (λ z. IsLawfulAt removed_after walked_after z (renames_from ps i) (pairs_to ps i) (copies_from ps i)) was.2
          (lawful_at was.0 (renames_from ps i) (pairs_to ps i) (copies_from ps i) (h.each i was.0 was.1));
    }

    pub lawful_from_mapped : (ps : List Pair) → AreLawful removed_after walked_after (map f xs) ps → AreLawful removed walked xs ps
    lawful_from_mapped ps h = record {
      inside = subst (λ n. All (λ (p : Pair). (p.source < n) × (p.destination < n)) ps) (length-map xs f) h.inside;
      each = λ i x here. lawful_from_at x (renames_from ps i) (pairs_to ps i) (copies_from ps i) (h.each i (f x) (there_mapped xs i x here));
    }

    -- The first bad pair is also the first for the mapped items.
    pub bad_pair_mapped : (ps : List Pair) (n : ℕ) → IsBadPair removed walked xs ps n → IsBadPair removed_after walked_after (map f xs) ps n
    bad_pair_mapped ps n h = record {
      within = h.within;
      before = lawful_mapped (take n ps) h.before;
      broken = λ lawful. h.broken (lawful_from_mapped (take (n + 1) ps) lawful);
    }

    -- Rewriting and mapping may be done in either order.
    pub rewritten_mapped : (is_made_of : I → I → Type 0) → ((x y : I) → is_made_of x y → f y ≡ f x) → (ps : List Pair) (entries : List (Rewritten I)) → AreLawful removed walked xs ps × IsRewritten is_made_of xs ps entries → AreLawful removed_after walked_after (map f xs) ps × IsRewritten (λ (u v : J). v ≡ u) (map f xs) ps (map (map_rewritten f) entries)
    rewritten_mapped is_made_of made ps entries h =
        (lawful_mapped ps h.0, is_rewritten_mapped is_made_of made xs ps entries h.1)
