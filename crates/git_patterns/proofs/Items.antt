-- Reading item by item.
use Rattle.std.proofs.Common.{◌≡◌, ◌<◌, ◌≤◌, ◌==◌, ℕ, zero, suc, Bool, true, false, cond, List, [], ◌∷◌, ◌++◌, length, Option, Some, None, refl, sym, ap, subst, ◌∙◌, append_assoc, arith}
use Rattle.std.proofs.lemmas.Bool.{eqb-true}
use Rattle.std.proofs.lemmas.List.{append-nil, nil_from_length}
use Rattle.std.specs.Option.{option_map}
use Rattle.git_patterns.specs.Items.{after_item, all_of, items_of}

module _ {A T : Type 0} where
  -- The text after an item is shorter.
  abbrev pub Leaves : (T → ℕ) → T → Option (A × T) → Type 0
  Leaves size text None = Unit {0}
  Leaves size text (Some x) = size x.1 < size text

  abbrev pub Shortens : (T → ℕ) → (T → Option (A × T)) → Type 0
  Shortens size at = (text : T) → Leaves size text (at text)

  stopped : (f : T → List A × T) (text : T) (o : Option (A × T)) → o ≡ None → after_item f text o ≡ ([], text)
  stopped f text None e = refl
  stopped f text (Some x) e = absurd cc

  nothing : (size : T → ℕ) (text : T) (o : Option (A × T)) → size text ≤ 0 → Leaves size text o → o ≡ None
  nothing size text None small h = refl
  nothing size text (Some x) small h = absurd (omega (arith, small, h))

  same_after : (f g : T → List A × T) (size : T → ℕ) (text : T) (o : Option (A × T)) → Leaves size text o → ((t : T) → size t < size text → f t ≡ g t) → after_item f text o ≡ after_item g text o
  same_after f g size text None h same = refl
  same_after f g size text (Some x) h same = ap (λ (r : List A × T). (x.0 ∷ r.0, r.1)) (same x.1 h)

  -- More steps than there are bytes change nothing.
  enough : (size : T → ℕ) (at : T → Option (A × T)) → Shortens size at → (n m : ℕ) (text : T) → size text ≤ n → size text ≤ m → items_of at n text ≡ items_of at m text
  enough size at short zero zero text a b = refl
  enough size at short zero (suc m) text a b = sym (stopped (items_of at m) text (at text) (nothing size text (at text) a (short text)))
  enough size at short (suc n) zero text a b = stopped (items_of at n) text (at text) (nothing size text (at text) b (short text))
  enough size at short (suc n) (suc m) text a b =
      same_after (items_of at n) (items_of at m) size text (at text) (short text) (λ t less. enough size at short n m t (omega (arith, less, a)) (omega (arith, less, b)))

  abbrev pub all : (T → ℕ) → (T → Option (A × T)) → T → List A × T
  all size at text = items_of at (size text) text

  pub all_more : (size : T → ℕ) (at : T → Option (A × T)) → Shortens size at → (text : T) (x : A × T) → at text ≡ Some x → all size at text ≡ (x.0 ∷ (all size at x.1).0, (all size at x.1).1)
  all_more size at short text x e =
      let less : size x.1 < size text = subst (Leaves size text) e (short text) in
      enough size at short (size text) (suc (size text)) text (omega arith) (omega arith)
      ∙ (ap (after_item (items_of at (size text)) text) e
      ∙ ap (λ (r : List A × T). (x.0 ∷ r.0, r.1)) (enough size at short (size text) (size x.1) x.1 (omega (arith, less)) (omega arith)))

  pub all_end : (size : T → ℕ) (at : T → Option (A × T)) → Shortens size at → (text : T) → at text ≡ None → all size at text ≡ ([], text)
  all_end size at short text e =
      enough size at short (size text) (suc (size text)) text (omega arith) (omega arith) ∙ ap (after_item (items_of at (size text)) text) e

  -- The items that were read, before those that are to be read.
  abbrev pub after : List A → List A × T → List A × T
  after out r = (out ++ r.0, r.1)

  pub read_more : (size : T → ℕ) (at : T → Option (A × T)) → Shortens size at → (whole : List A × T) (out : List A) (text : T) (x : A × T)
      → after out (all size at text) ≡ whole → at text ≡ Some x → after (out ++ x.0 ∷ []) (all size at x.1) ≡ whole
  read_more size at short whole out text x so_far e =
      ap (λ (items : List A). (items, (all size at x.1).1)) (append_assoc out (x.0 ∷ []) (all size at x.1).0)
      ∙ (sym (ap (after out) (all_more size at short text x e)) ∙ so_far)

  pub read_end : (size : T → ℕ) (at : T → Option (A × T)) → Shortens size at → (whole : List A × T) (out : List A) (text : T)
      → after out (all size at text) ≡ whole → at text ≡ None → (out, text) ≡ whole
  read_end size at short whole out text so_far e =
      sym (ap (λ (items : List A). (items, text)) (append-nil out)) ∙ (sym (ap (after out) (all_end size at short text e)) ∙ so_far)

  after_leaves : (size : T → ℕ) (f : T → List A × T) (text : T) (o : Option (A × T)) → Leaves size text o → ((t : T) → size (f t).1 ≤ size t) → size (after_item f text o).1 ≤ size text
  after_leaves size f text None h less = omega arith
  after_leaves size f text (Some x) h less = omega (arith, h, less x.1)

  -- The text after all items isn't longer.
  pub items_leave : (size : T → ℕ) (at : T → Option (A × T)) → Shortens size at → (n : ℕ) (text : T) → size (items_of at n text).1 ≤ size text
  items_leave size at short zero text = omega arith
  items_leave size at short (suc n) text = after_leaves size (items_of at n) text (at text) (short text) (items_leave size at short n)

  -- An item was read, so the text after it is shorter.
  pub shorter : (size : T → ℕ) (at : T → Option (A × T)) → Shortens size at → (text : T) (x : A × T) → at text ≡ Some x → size x.1 < size text
  shorter size at short text x e = subst (Leaves size text) e (short text)

  -- ---- how much is left

  pub cond_leaves : (size : T → ℕ) (text : T) (v : Bool) (x y : Option (A × T)) → Leaves size text x → Leaves size text y → Leaves size text (cond v x y)
  cond_leaves size text true x y h k = h
  cond_leaves size text false x y h k = k

  pub wider : (size : T → ℕ) (small text : T) (o : Option (A × T)) → Leaves size small o → size small ≤ size text → Leaves size text o
  wider size small text None h le = tt
  wider size small text (Some x) h le = omega (arith, h, le)

pub map_leaves : {A B T : Type 0} (size : T → ℕ) (text : T) (f : A → B) (o : Option (A × T)) → Leaves size text o → Leaves size text (option_map (λ x. (f x.0, x.1)) o)
map_leaves size text f None h = tt
map_leaves size text f (Some x) h = h

-- All items were read, and nothing more is.
pub all_read : {A T : Type 0} (size : T → ℕ) (at : T → Option (A × T)) → Shortens size at → (out : List A) (text whole : T)
    → after out (all size at text) ≡ all size at whole → at text ≡ None → all size at whole ≡ (out, text)
all_read size at short out text whole so_far e = sym (read_end size at short (all size at whole) out text so_far e)

pub all_of_none : {A : Type 0} (items : A) (rest : List ℕ) → (length rest == 0) ≡ true → all_of items rest ≡ Some items
all_of_none items rest e = ap (all_of items) (nil_from_length rest (eqb-true (length rest) 0 e))

pub all_of_some : {A : Type 0} (items : A) (rest : List ℕ) → (length rest == 0) ≡ false → all_of items rest ≡ None
all_of_some items [] e = absurd cc
all_of_some items (b ∷ rest) e = refl
