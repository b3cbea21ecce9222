-- The front of a list, put before the list that is read from the rest.
use Rattle.std.proofs.Common.{◌≡◌, ℕ, ◌+◌, ◌<◌, suc, List, [], ◌∷◌, ◌++◌, length, get_or, drop, Option, Some, None, refl, sym, ap, ◌∙◌, add-one, append_assoc, drop-cons}
use Rattle.serde_json.specs.Data.{Data, Items, item}
use Rattle.serde_json.specs.View.{items_view, view}
use Rattle.serde_json.specs.declared.value.Value.{Value}
use Rattle.status_format.specs.Reading.{each}
use Rattle.status_format.specs.Reads.{◌>>=◌}

abbrev pub with_front : {A : Type 0} → List A → Option (List A) → Option (List A)
with_front front None = None
with_front front (Some rest) = Some (front ++ rest)

-- The first item of what is left.
pub first_item : (vs : List Value) (i : ℕ) (v : Value) → i < length vs → v ≡ get_or vs i v → items_view (drop i vs) ≡ item (view v) (items_view (drop (i + 1) vs))
first_item vs i v h is = rw (add-one, drop-cons vs i v) (ap (λ (d : Value). item (view d) (items_view (drop (suc i) vs))) (sym is))

module _ {A : Type 0} (front : List A) (x : A) where
  front_more : (rest : Option (List A)) → with_front front (rest >>= (λ xs. Some (x ∷ xs))) ≡ with_front (front ++ x ∷ []) rest
  front_more None = refl
  front_more (Some rest) = simp append_assoc

  each_more : (read : Data → Option A) (d : Data) (ds : Items) → read d ≡ Some x → with_front front (each read (item d ds)) ≡ with_front (front ++ x ∷ []) (each read ds)
  each_more read d ds said = rw said (front_more (each read ds))

  -- One more item is read.
  pub one_more : (read : Data → Option A) (vs : List Value) (i : ℕ) (v : Value) (whole : Option (List A)) → i < length vs → v ≡ get_or vs i v
      → read (view v) ≡ Some x → with_front front (each read (items_view (drop i vs))) ≡ whole
      → with_front (front ++ x ∷ []) (each read (items_view (drop (i + 1) vs))) ≡ whole
  one_more read vs i v whole h is said before =
      sym (each_more read (view v) (items_view (drop (i + 1) vs)) said)
      ∙ sym (ap (λ ds. with_front front (each read ds)) (first_item vs i v h is))
      ∙ before
