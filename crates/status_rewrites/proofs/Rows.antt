-- From the changes as they are read to the changes themselves.
use Rattle.std.proofs.Common.{◌≡◌, sym, ap, subst, ◌∙◌, ℕ, ◌+◌, ◌<◌, Bool, List, [], ◌∷◌, ◌++◌, length, map, take, slice_index_or, arith}
use Rattle.std.specs.List.{filter, zip, enumerate_from}
use Rattle.std.specs.List.Sorted.{IsPermutation, IsSorted}
use Rattle.std.specs.Ordering.{is_lt}
use Rattle.std.proofs.lemmas.List.{map_push, map_more, length-map, length-take-le}
use Rattle.std.proofs.lemmas.List.Sorted.{IsPermutation-map}
use Rattle.std.proofs.lemmas.Simd.{map-map}
use Rattle.status_rewrites.specs.declared.tracker.ChangeKind.{ChangeKind}
use Rattle.status_rewrites.specs.declared.tracker.ChangeKind.TheVariants.{Deletion, Addition}
use Rattle.status_rewrites.specs.declared.seen.Seen.{Seen}
use Rattle.status_rewrites.specs.declared.tracker.Pair.{Pair}
use Rattle.status_rewrites.specs.TrackedChanges.{Changed}
use Rattle.status_rewrites.specs.IdentityPairs.{NumberedChange, key_cmp, are_alike, place_cmp, may_stand, row, rename, AreIdentityPairs}
use Rattle.status_rewrites.specs.Joins.{alike_in, side_of, HasRows, IsJoin}
use Rattle.status_rewrites.specs.SeenItems.{numbered}
use Rattle.status_rewrites.proofs.Lists.{filter-map, zip-map, enumerate_from_push, IsSortedBy-map}

-- One more change is read.
pub seen_more : {X : Type 0} (changed : X → Changed) (items : List X) (i : ℕ) (x : X) (seen : List Seen) (s : Seen) → i < length items → x ≡ slice_index_or items i x → numbered s ≡ (i, changed x) → map numbered seen ≡ enumerate_from 0 (map changed (take i items)) → map numbered (seen ++ s ∷ []) ≡ enumerate_from 0 (map changed (take (i + 1) items))
seen_more changed items i x seen s h read is before =
    let so_far = map changed (take i items) in
    let long : 0 + length so_far ≡ i = omega (arith, length-map (take i items) changed, length-take-le i items (omega arith)) in
    let more : map changed (take (i + 1) items) ≡ so_far ++ changed x ∷ [] =
    map_more changed items i x h ∙ ap (λ y. so_far ++ changed y ∷ []) (sym read) in
    map_push numbered seen s
    ∙ ap (λ v. v ++ numbered s ∷ []) before
    ∙ ap (λ v. enumerate_from 0 so_far ++ v ∷ []) is
    ∙ ap (λ n. enumerate_from 0 so_far ++ (n, changed x) ∷ []) (sym long)
    ∙ sym (enumerate_from_push 0 so_far (changed x))
    ∙ ap (enumerate_from 0) (sym more)

-- The changes of a side with a key are its row.
row_of : (side : ChangeKind) (track_empty : Bool) (key : Changed) (ordered kept : List Seen) → HasRows (side_of side track_empty ordered) kept → map numbered (alike_in key kept) ≡ row side track_empty key (map numbered ordered)
row_of side track_empty key ordered kept rows =
    let may : NumberedChange → Bool = λ x. may_stand side track_empty x.1 in
    let alike : NumberedChange → Bool = λ x. are_alike x.1 key in
    ap (map numbered) (rows key)
    ∙ sym (filter-map alike numbered (side_of side track_empty ordered))
    ∙ ap (filter alike) (sym (filter-map may numbered ordered))

-- The pairs of a join of both sides are the identity pairs.
pub pairs_from_join : (track_empty : Bool) (xs : List Changed) (seen ordered gone came : List Seen) (pairs : List Pair) → map numbered seen ≡ enumerate_from 0 xs → IsPermutation seen ordered → IsSorted (λ a b. place_cmp (numbered a) (numbered b)) ordered → HasRows (side_of Deletion track_empty ordered) gone → HasRows (side_of Addition track_empty ordered) came → IsJoin gone came pairs → AreIdentityPairs track_empty xs pairs
pairs_from_join track_empty xs seen ordered gone came pairs read bag up of_gone of_came j =
    let both : Seen × Seen → NumberedChange × NumberedChange = λ m. (numbered m.0, numbered m.1) in
    record {
      ordered = map numbered ordered;
      bag = subst (λ v. IsPermutation v (map numbered ordered)) read (IsPermutation-map numbered seen ordered bag);
      ascends = IsSortedBy-map (λ a b. is_lt (place_cmp a b)) numbered ordered up;
      matched = map both j.matched;
      are = j.are ∙ sym (map-map rename both j.matched);
      by_key = IsSortedBy-map (λ (a : NumberedChange × NumberedChange) (b : NumberedChange × NumberedChange). is_lt (key_cmp a.0.1 b.0.1)) both j.matched j.by_key;
      each = λ key.
          filter-map (λ (m : NumberedChange × NumberedChange). are_alike m.0.1 key) both j.matched
          ∙ ap (map both) (j.each key)
          ∙ sym (zip-map numbered (alike_in key gone) (alike_in key came))
          ∙ ap (λ v. zip v (map numbered (alike_in key came))) (row_of Deletion track_empty key ordered gone of_gone)
          ∙ ap (λ v. zip (row Deletion track_empty key (map numbered ordered)) v) (row_of Addition track_empty key ordered came of_came);
    }
