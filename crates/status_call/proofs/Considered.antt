-- The considered entries are a range of the index.
use Rattle.std.proofs.Common.{◌≡◌, refl, sym, ap, ◌∙◌, subst, ℕ, ◌+◌, ◌-◌, ◌<◌, ◌≤◌, Bool, true, false, cond, ◌||◌, List, [], ◌∷◌, ◌++◌, length, take, drop, All, arith, length-take, length-drop}
use Rattle.std.specs.List.{filter, list_any, position_or_len}
use Rattle.std.proofs.lemmas.List.{append-nil, take-append-drop, drop-drop}
use Rattle.std.proofs.lemmas.List.Elements.{All-head, All-tail, filter-append}
use Rattle.std.proofs.lemmas.List.Folds.{list_any_none}
use Rattle.status_index.specs.Entries.{IndexEntry}
use Rattle.status_index.specs.Stretch.{is_under, part_of, IsStretch}
use Rattle.status_call.specs.Considered.{considered, considered_start}

module _ {X : Type 0} (p : X → Bool) where
  filter_none : (xs : List X) → All (λ x. p x ≡ false) xs → filter p xs ≡ []
  filter_none [] h = refl
  filter_none (x ∷ xs) h = rw (All-head (λ x. p x ≡ false) x xs h) (filter_none xs (All-tail (λ x. p x ≡ false) x xs h))

  filter_all : (xs : List X) → All (λ x. p x ≡ true) xs → filter p xs ≡ xs
  filter_all [] h = refl
  filter_all (x ∷ xs) h = rw (All-head (λ x. p x ≡ true) x xs h) (ap (λ (l : List X). x ∷ l) (filter_all xs (All-tail (λ x. p x ≡ true) x xs h)))

  any_behind : (front : List X) (y : X) (ys : List X) → p y ≡ true → list_any p (front ++ y ∷ ys) ≡ true
  any_behind [] y ys h = rw h refl
  any_behind (x ∷ front) y ys h = rw (any_behind front y ys h) (or_true (p x))
    where
      or_true : (b : Bool) → (b || true) ≡ true
      or_true true = refl
      or_true false = refl

  position_behind : (front : List X) (y : X) (ys : List X) → All (λ x. p x ≡ false) front → p y ≡ true → position_or_len p (front ++ y ∷ ys) ≡ length front
  position_behind [] y ys n h = rw h refl
  position_behind (x ∷ front) y ys n h = rw (All-head (λ x. p x ≡ false) x front n) (omega (arith, position_behind front y ys (All-tail (λ x. p x ≡ false) x front n) h))

-- The parts of a list at two positions.
pub three_parts : {X : Type 0} (es : List X) (a b : ℕ) → a ≤ b → take a es ++ (part_of es a b ++ drop b es) ≡ es
three_parts {X} es a b h =
    let e : a + (b - a) ≡ b = omega arith in
    ap (λ (l : List X). take a es ++ (part_of es a b ++ l)) (sym (ap (λ n. drop n es) e) ∙ sym (drop-drop (b - a) a es))
    ∙ ap (λ (l : List X). take a es ++ l) (take-append-drop (b - a) (drop a es)) ∙ take-append-drop a es

module _ (prefix : List ℕ) where
  -- A front and a back that aren't under the prefix, and a part that is. If that part is empty, all are considered.
  considered_by : (front part back : List IndexEntry) → All (λ e. is_under prefix e ≡ false) front → All (λ e. is_under prefix e ≡ true) part → All (λ e. is_under prefix e ≡ false) back
      → (length part ≡ 0 → (front ≡ []) × (back ≡ []))
      → (part ≡ considered prefix (front ++ (part ++ back))) × (length front ≡ considered_start prefix (front ++ (part ++ back)))
  considered_by [] [] [] f w k h = (refl, refl)
  considered_by [] [] (y ∷ back) f w k h = let bad = (h refl).1 in absurd (cc)
  considered_by (x ∷ front) [] back f w k h = let bad = (h refl).0 in absurd (cc)
  considered_by front (y ∷ ys) back f w k h =
      let p : IndexEntry → Bool = is_under prefix in
      let here : p y ≡ true = All-head (λ e. p e ≡ true) y ys w in
      let any : list_any p (front ++ (y ∷ ys ++ back)) ≡ true = any_behind p front y (ys ++ back) here in
      let kept : filter p (front ++ (y ∷ ys ++ back)) ≡ y ∷ ys =
      filter-append p front (y ∷ ys ++ back) ∙ ap (λ (l : List IndexEntry). l ++ filter p (y ∷ ys ++ back)) (filter_none p front f)
      ∙ filter-append p (y ∷ ys) back ∙ ap (λ (l : List IndexEntry). l ++ filter p back) (filter_all p (y ∷ ys) w)
      ∙ ap (λ (l : List IndexEntry). (y ∷ ys) ++ l) (filter_none p back k) ∙ append-nil (y ∷ ys) in
      let place = position_behind p front y (ys ++ back) f here in (
        sym (ap (λ b. cond b (filter p (front ++ (y ∷ ys ++ back))) (front ++ (y ∷ ys ++ back))) any ∙ kept),
        sym (ap (λ b. cond b (position_or_len p (front ++ (y ∷ ys ++ back))) 0) any ∙ place),
      )

  none_of : (xs : List IndexEntry) → prefix ≡ [] → All (λ e. is_under prefix e ≡ false) xs → xs ≡ []
  none_of [] e h = refl
  none_of (x ∷ xs) e h = let bad : is_under [] x ≡ false = subst (λ l. is_under l x ≡ false) e (All-head (λ e. is_under prefix e ≡ false) x xs h) in absurd (cc)

nil_or_more : (xs : List ℕ) → (0 < length xs → ⊥) → xs ≡ []
nil_or_more [] h = refl
nil_or_more (x ∷ xs) h = absurd (h (omega arith))

-- The range has exactly the considered entries.
pub is_considered : (es : List IndexEntry) (prefix : List ℕ) (a b : ℕ) → IsStretch es prefix a b → (0 < length prefix → a < b)
    → (part_of es a b ≡ considered prefix es) × (a ≡ considered_start prefix es)
is_considered es prefix a b s h =
    let parts = three_parts es a b s.order in
    let len_part : length (part_of es a b) ≡ b - a = omega (arith, length-take (b - a) (drop a es), length-drop a es, s.inside, s.order) in
    let empty : length (part_of es a b) ≡ 0 → prefix ≡ [] = λ e. nil_or_more prefix (λ l. let lt : a < b = h l in omega arith) in
    let both = considered_by prefix (take a es) (part_of es a b) (drop b es) s.before s.within s.after (λ e. (none_of prefix (take a es) (empty e) s.before, none_of prefix (drop b es) (empty e) s.after)) in
    let len_front : length (take a es) ≡ a = omega (arith, length-take a es, s.inside, s.order) in
    (both.0 ∙ ap (considered prefix) parts, sym len_front ∙ both.1 ∙ ap (considered_start prefix) parts)

-- If no entry is under the prefix, all are considered.
pub all_considered : (es : List IndexEntry) (prefix : List ℕ) → All (λ e. is_under prefix e ≡ false) es → (es ≡ considered prefix es) × (0 ≡ considered_start prefix es)
all_considered es prefix h = rw (list_any_none (is_under prefix) es h) (refl, refl)
