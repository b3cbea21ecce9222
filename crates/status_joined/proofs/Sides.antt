-- The list's records come before its nodes.
use Rattle.std.proofs.Common.{◌≡◌, refl, sym, ap, ◌∙◌, ℕ, ◌+◌, ◌-◌, ◌<◌, ◌≤◌, false, List, ◌++◌, length, map, get_or, inl, inr, arith}
use Rattle.std.specs.List.Sorted.{IsSortedByKey}
use Rattle.std.specs.Ordering.{is_lt, nat_cmp}
use Rattle.std.proofs.lemmas.List.{get_or-map, length-map, length-append, get_or_append_left, get_or-append_right}
use Rattle.std.proofs.lemmas.List.Elements.{All-map}
use Rattle.std.proofs.lemmas.Bool.{cases_lt}
use Rattle.std.proofs.lemmas.Bool.Decides.{nat_tests}
use Rattle.status_index.specs.BlobId.{null_id}
use Rattle.status_index.specs.declared.id.HashKind.{HashKind}
use Rattle.status_call.specs.Visits.{Visit}
use Rattle.status_walk.specs.WalkedNodes.{Walked}
use Rattle.status_joined.specs.Items.{Item, tracked, walked, side_of}
use Rattle.status_joined.specs.Lists.{unsorted}

not_below : (a b : ℕ) → b ≤ a → is_lt (nat_cmp a b) ≡ false
not_below a b h = grind (arith, nat_tests)

module _ {T U : Type 0} (kind : HashKind) (vs : List (Visit T U)) (ws : List Walked) where
  abbrev records : List (Item T U)
  records = map tracked vs

  abbrev nodes : List (Item T U)
  nodes = map (λ w. walked w (null_id kind)) ws

  side_of_record : (k : ℕ) (d : Item T U) → k < length vs → side_of (get_or (records ++ nodes) k d) ≡ 0
  side_of_record k d h =
      let all : length records ≡ length vs = length-map vs tracked in
      let long : k < length records = omega arith in
      ap side_of (get_or_append_left records nodes d k long) ∙ All-map (λ x. side_of x ≡ 0) tracked vs (λ i e h. refl) k d long

  side_of_node : (k : ℕ) (d : Item T U) → length vs ≤ k → k < length (records ++ nodes) → side_of (get_or (records ++ nodes) k d) ≡ 1
  side_of_node k d h within =
      let long : length records ≡ length vs = length-map vs tracked in
      let all : length (records ++ nodes) ≡ length records + length nodes = length-append records nodes in
      ap side_of (get_or-append_right records nodes (length vs) k d long h)
      ∙ All-map (λ x. side_of x ≡ 1) (λ w. walked w (null_id kind)) ws (λ i e h. refl) (k - length vs) d (omega arith)

  rises : (k : ℕ) (d : Item T U) → k + 1 < length (records ++ nodes) → side_of (get_or (records ++ nodes) k d) ≤ side_of (get_or (records ++ nodes) (k + 1) d)
  rises k d within =
      elim (cases_lt k (length vs)) [
        | inl h ↦ omega (arith, side_of_record k d h)
        | inr h ↦ omega (arith, side_of_node k d h (omega arith), side_of_node (k + 1) d (omega arith) within)
      ]

  -- A list whose items are the unsorted list is sorted by side.
  pub records_first : {X : Type 0} (f : X → Item T U) (xs : List X) → map f xs ≡ unsorted kind vs ws → IsSortedByKey (λ x. side_of (f x)) nat_cmp xs
  records_first f xs e k d from within =
      let long : length xs ≡ length (records ++ nodes) = sym (length-map xs f) ∙ ap length e in
      let here : side_of (f (get_or xs k d)) ≡ side_of (get_or (records ++ nodes) k (f d)) =
      ap side_of (sym (get_or-map f xs k d (f d) (omega arith)) ∙ ap (λ ys. get_or ys k (f d)) e) in
      let next : side_of (f (get_or xs (k + 1) d)) ≡ side_of (get_or (records ++ nodes) (k + 1) (f d)) =
      ap side_of (sym (get_or-map f xs (k + 1) d (f d) within) ∙ ap (λ ys. get_or ys (k + 1) (f d)) e) in
      not_below (side_of (f (get_or xs (k + 1) d))) (side_of (f (get_or xs k d))) (omega (arith, here, next, rises k (f d) (omega arith)))
