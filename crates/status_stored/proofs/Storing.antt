-- One more entry is stored, or it is the first whose path isn't UTF-8.
use Rattle.std.proofs.Common.{◌≡◌, ℕ, ◌+◌, ◌<◌, List, [], ◌∷◌, ◌++◌, length, map, take, get_or, All, ap, sym, subst, ◌∙◌, arith}
use Rattle.std.proofs.lemmas.List.{get_or_default, map_more, map_push, take-map, get_or-map, length-map}
use Rattle.std.proofs.lemmas.List.Elements.{All-push}
use Rattle.std.specs.List.{HoldsAt}
use Rattle.std.specs.Str.{IsUtf8}
use Rattle.serde_json.specs.View.{view}
use Rattle.serde_json.specs.declared.value.Value.{Value}
use Rattle.status_index.specs.Entries.{IndexEntry}
use Rattle.status_stored.specs.Steps.{AreValuesOf}
use Rattle.status_format.specs.Storable.{IsStorable}
use Rattle.status_stored.specs.Storable.{IsNotUtf8At}
use Rattle.status_format.specs.StoredEntry.{stored_entry}

-- The element at a position, and the fact that holds for it.
pub record ElementAt {X : Type 0} (P : X → Type 0) (xs : List X) (i : ℕ) : Type 0 where
  pub it : X
  pub is : (d : X) → get_or xs i d ≡ it
  pub holds : P it

pub placed : {X : Type 0} (P : X → Type 0) (xs : List X) (i : ℕ) → i < length xs → HoldsAt P xs i → ElementAt P xs i
placed P [] i h holds = absurd (omega arith)
placed P (x ∷ xs) i h holds =
    record { it = get_or (x ∷ xs) i x; is = λ d. get_or_default (x ∷ xs) i d x h; holds = holds x }

one_more : (es : List IndexEntry) (e : IndexEntry) (values : List Value) (value : Value) → AreValuesOf es values → IsStorable e
    → view value ≡ stored_entry e → AreValuesOf (es ++ e ∷ []) (values ++ value ∷ [])
one_more es e values value before storable shown =
    record {
      storable = All-push IsStorable es e before.storable storable;
      shown =
          map_push view values value
          ∙ ap (λ vs. vs ++ view value ∷ []) before.shown
          ∙ ap (λ v. map stored_entry es ++ v ∷ []) shown
          ∙ sym (map_push stored_entry es e);
    }

-- An entry's value is appended to those of the entries before it.
pub values_more : {X : Type 0} (f : X → IndexEntry) (xs : List X) (i : ℕ) (values : List Value) (value : Value) → i < length xs
    → AreValuesOf (map f (take i xs)) values
    → HoldsAt (λ x. IsStorable (f x) × (view value ≡ stored_entry (f x))) xs i
    → AreValuesOf (map f (take (i + 1) xs)) (values ++ value ∷ [])
values_more f xs i values value h before holds =
    let here = placed (λ x. IsStorable (f x) × (view value ≡ stored_entry (f x))) xs i h holds in
    let more : map f (take (i + 1) xs) ≡ map f (take i xs) ++ f here.it ∷ [] =
    map_more f xs i here.it h ∙ ap (λ x. map f (take i xs) ++ f x ∷ []) (here.is here.it) in
    rw more (one_more (map f (take i xs)) (f here.it) values value before here.holds.0 here.holds.1)

-- The entry is the first whose path isn't UTF-8.
pub not_utf8_at : {X : Type 0} (f : X → IndexEntry) (xs : List X) (i : ℕ) → i < length xs
    → All IsStorable (map f (take i xs)) → HoldsAt (λ x. IsUtf8 (f x).path → ⊥) xs i → IsNotUtf8At (map f xs) i
not_utf8_at f xs i h before holds =
    let here = placed (λ x. IsUtf8 (f x).path → ⊥) xs i h holds in
    record {
      inside = rw (length-map xs f) h;
      before = rw (take-map f i xs) (λ k d lt. (before k d lt).path);
      here = λ d utf8.
          let e : get_or (map f xs) i d ≡ f here.it = get_or-map f xs i here.it d h ∙ ap f (here.is here.it) in
          let P : IndexEntry → Type 0 = λ x. IsUtf8 x.path in
          here.holds (subst P e utf8);
    }
