-- The list's items get their ids one by one.
use Rattle.std.proofs.Common.{◌≡◌, ◌⊎◌, inl, inr, refl, sym, ap, ◌∙◌, ℕ, ◌+◌, ◌<◌, Bool, IsTrue, List, [], ◌∷◌, ◌++◌, length, map, take, drop, get_or, set, Result, Ok, Err, Some, slice_get, arith}
use Rattle.std.specs.Result.{result_err}
use Rattle.std.proofs.lemmas.List.{map_push, take_more, take_more_set, drop_more, drop-set-lt, take-append-drop, length-set, map-append}
use Rattle.std.proofs.lemmas.List.Elements.{filter_map-append}
use Rattle.std.proofs.lemmas.Grind.{drop_more_same}
use Rattle.status_index.specs.declared.fault.Fault.TheVariants.{Memory}
use Rattle.status_index.specs.declared.id.HashKind.{HashKind}
use Rattle.status_index.specs.declared.id.ObjectId.{ObjectId}
use Rattle.status_walk.specs.WalkedNodes.{Walked}
use Rattle.status_walk.specs.WorktreeIds.{fault_of}
use Rattle.status_walk.specs.declared.id.IdError.{IdError}
use Rattle.status_joined.specs.NodeIds.{identified, id_faults, forget}
use Rattle.status_joined.specs.Items.{Item}

map_map_push : {X Y Z : Type 0} (g : Y → Z) (f : X → Y) (xs : List X) (x : X) → map g (map f (xs ++ x ∷ [])) ≡ map g (map f xs) ++ g (f x) ∷ []
map_map_push g f xs x = ap (map g) (map_push f xs x) ∙ map_push g (map f xs) (f x)

-- Lists that agree from a position on agree at it.
same_there : {X : Type 0} (xs ys : List X) (i : ℕ) (d : X) → i < length xs → i < length ys → drop i xs ≡ drop i ys → get_or xs i d ≡ get_or ys i d
same_there xs ys i d in_xs in_ys e =
    let h : get_or xs i d ∷ drop (i + 1) xs ≡ get_or ys i d ∷ drop (i + 1) ys = sym (drop_more xs i d in_xs) ∙ e ∙ drop_more ys i d in_ys in
    cc

-- Items that all have ids have no fault.
none_faulty : {T U : Type 0} (ids : Walked → Result ObjectId IdError) (xs ys : List (Item T U)) → map (identified ids) xs ≡ map Ok ys → id_faults ids xs ≡ []
none_faulty ids [] ys h = refl
none_faulty ids (x ∷ xs) [] h = cc
none_faulty ids (x ∷ xs) (y ∷ ys) h =
    let first : identified ids x ≡ Ok y = cc in
    let others : map (identified ids) xs ≡ map Ok ys = cc in
    rw first (none_faulty ids xs ys others)

module _ {X T U : Type 0} (said : X → Item T U) (kind : HashKind) (modelled : Bool) (ids : Walked → Result ObjectId IdError) where
  -- The first i items of a list have their ids, and the others are unchanged.
  pub record AreIdentifiedUpTo (old now : List X) (i : ℕ) : Type 0 where
    pub known : IsTrue modelled → map (identified ids) (map said (take i old)) ≡ map Ok (map said (take i now))
    pub same : map (forget kind) (map said (take i now)) ≡ map (forget kind) (map said (take i old))
    pub rest : drop i now ≡ drop i old
    pub long : length now ≡ length old

  -- The next one has its id too.
  pub one_more : (old now : List X) (i : ℕ) (d y : X) → i < length now → AreIdentifiedUpTo old now i → (IsTrue modelled → identified ids (said (get_or now i d)) ≡ Ok (said y)) → forget kind (said y) ≡ forget kind (said (get_or now i d)) → AreIdentifiedUpTo old (set now i y) (i + 1)
  one_more old now i d y within before is only =
      let x = get_or now i d in
      let there : get_or old i d ≡ x = sym (same_there now old i d within (omega (arith, before.long)) before.rest) in
      let more_old : take (i + 1) old ≡ take i old ++ x ∷ [] = take_more old i d (omega (arith, before.long)) ∙ ap (λ z. take i old ++ z ∷ []) there in
      let more_now : take (i + 1) (set now i y) ≡ take i now ++ y ∷ [] = take_more_set now i y within in
      record {
        known = λ m.
            ap (λ xs. map (identified ids) (map said xs)) more_old
            ∙ map_map_push (identified ids) said (take i old) x
            ∙ ap (λ r. map (identified ids) (map said (take i old)) ++ r ∷ []) (is m)
            ∙ ap (λ rs. rs ++ Ok (said y) ∷ []) (before.known m)
            ∙ sym (map_map_push Ok said (take i now) y)
            ∙ ap (λ xs. map Ok (map said xs)) (sym more_now);
        same =
            ap (λ xs. map (forget kind) (map said xs)) more_now
            ∙ map_map_push (forget kind) said (take i now) y
            ∙ ap (λ r. map (forget kind) (map said (take i now)) ++ r ∷ []) only
            ∙ ap (λ rs. rs ++ forget kind (said x) ∷ []) before.same
            ∙ sym (map_map_push (forget kind) said (take i old) x)
            ∙ ap (λ xs. map (forget kind) (map said xs)) (sym more_old);
        rest = drop-set-lt (i + 1) now i y (omega arith) ∙ drop_more_same now old i before.rest;
        long = length-set now i y ∙ before.long;
      }

  -- The next one has a fault, which is the first.
  pub first_fault : (old now : List X) (i : ℕ) (d : X) (e : IdError) → i < length now → AreIdentifiedUpTo old now i → (IsTrue modelled → (identified ids (said (get_or now i d)) ≡ Err e) ⊎ (fault_of e ≡ Memory)) → IsTrue modelled → (slice_get (id_faults ids (map said old)) 0 ≡ Some e) ⊎ (fault_of e ≡ Memory)
  first_fault old now i d e within before is m =
      let x = get_or now i d in
      let there : get_or old i d ≡ x = sym (same_there now old i d within (omega (arith, before.long)) before.rest) in
      let cut : map said old ≡ map said (take i old) ++ said x ∷ map said (drop (i + 1) old) =
      ap (map said) (sym (take-append-drop i old) ∙ ap (λ r. take i old ++ r) (drop_more old i d (omega (arith, before.long))) ∙ ap (λ z. take i old ++ z ∷ drop (i + 1) old) there)
      ∙ map-append said (take i old) (x ∷ drop (i + 1) old) in
      let faults : id_faults ids (map said old) ≡ id_faults ids (said x ∷ map said (drop (i + 1) old)) =
      ap (id_faults ids) cut
      ∙ filter_map-append (λ z. result_err (identified ids z)) (map said (take i old)) (said x ∷ map said (drop (i + 1) old))
      ∙ ap (λ es. es ++ id_faults ids (said x ∷ map said (drop (i + 1) old))) (none_faulty ids (map said (take i old)) (map said (take i now)) (before.known m)) in
      elim (is m) [
        | inl h ↦ inl (rw (faults, h) refl)
        | inr h ↦ inr h
      ]
