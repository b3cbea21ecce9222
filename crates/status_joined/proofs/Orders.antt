-- Lists that are sorted by one key and then by another.
use Rattle.std.proofs.Common.{◌≡◌, refl, ◌+◌, false, not, ◌&&◌, List, slice_index_or, true}
use Rattle.std.specs.Cmp.{IsTotalOrder}
use Rattle.std.specs.List.Sorted.{IsSorted, IsSortedByKey, IsStableByKey}
use Rattle.std.specs.Ordering.{is_lt, ordering_then}
use Rattle.std.specs.declared.cmp.Ordering.{Ordering}
use Rattle.std.specs.declared.cmp.Ordering.TheVariants.{Less, Equal, Greater}
use Rattle.std.proofs.lemmas.Cmp.{tied_back}
use Rattle.std.proofs.lemmas.List.Sorted.{ranks_by, ties_stay_sorted}

not_before : (r s : Ordering) → is_lt r ≡ false → (r ≡ Equal → is_lt s ≡ false) → is_lt (ordering_then r s) ≡ false
not_before Less s h ties = cc
not_before Equal s h ties = ties refl
not_before Greater s h ties = refl

-- If a list is sorted by S, a stable sort by R sorts it by R and then by S.
pub sorted_by_both : {X K J : Type 0} {R : K → K → Ordering} {S : J → J → Ordering} (o : IsTotalOrder R) (p : IsTotalOrder S) (key : X → K) (side : X → J) (xs ys : List X) → IsSortedByKey side S xs → IsStableByKey key R xs ys → IsSortedByKey key R ys → IsSorted (λ a b. ordering_then (R (key a) (key b)) (S (side a) (side b))) ys
sorted_by_both {R = R} {S = S} o p key side xs ys before stable up k d from within =
    let x = slice_index_or ys k d in
    let y = slice_index_or ys (k + 1) d in
    not_before (R (key y) (key x)) (S (side y) (side x)) (up k d from within)
    (λ tie.
    let one : (not (is_lt (R (key x) (key y))) && not (is_lt (R (key y) (key x)))) ≡ true = rw (tied_back o (key y) (key x) tie, tie) refl in
    ties_stay_sorted (λ a b. is_lt (S (side a) (side b))) (λ a b. is_lt (R (key a) (key b))) (ranks_by p side) (ranks_by o key) xs ys before stable k d within one)
