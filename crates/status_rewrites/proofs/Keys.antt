-- The orders of changes: by key and by path.
use Rattle.std.proofs.Common.{sym, Bool, List, Result, OnOk, ◌≡◌, refl, ap, ◌∙◌, not, ◌&&◌}
use denote.Param.Members.{Mut}
use denote.Ref.{Bor}
use Rattle.std.specs.Cmp.{IsTotalOrder}
use Rattle.std.specs.Fn.{ComparesAs}
use Rattle.std.specs.List.{filter}
use Rattle.std.specs.List.Sorted.{IsSortedByClosure, IsSortedByKey, IsStableByClosure, ties}
use Rattle.std.specs.Ordering.{ordering_reverse, is_lt, is_eq}
use Rattle.std.specs.declared.cmp.Ordering.{Ordering}
use Rattle.std.specs.declared.cmp.Ordering.TheVariants.{Less, Equal, Greater}
use Rattle.std.proofs.lemmas.Cmp.{nat_cmp_total, nat_list_cmp_total, on_total, then_total}
use Rattle.std.proofs.lemmas.List.Elements.{filter_agree}
use Rattle.std.proofs.lemmas.List.Sorted.{ranks_by}
use Rattle.std.proofs.lemmas.Result.{on_ok_weaker}
use Rattle.status_index.specs.BlobId.{id_kind, id_bytes}
use Rattle.status_index.specs.Orders.{kind_rank, id_cmp}
use Rattle.status_rewrites.specs.TrackedChanges.{Changed}
use Rattle.status_rewrites.specs.IdentityPairs.{NumberedChange, mode_number, key_cmp, place_cmp}

id_total : IsTotalOrder id_cmp
id_total = then_total (on_total (λ i. kind_rank (id_kind i)) nat_cmp_total) (on_total id_bytes nat_list_cmp_total)

pub key_total : IsTotalOrder key_cmp
unfolding key_cmp
key_total = then_total (on_total (λ (c : Changed). mode_number c.mode) nat_cmp_total) (on_total (λ (c : Changed). c.id) id_total)

pub path_total : IsTotalOrder place_cmp
unfolding place_cmp
path_total = then_total (on_total (λ (p : NumberedChange). p.1.path) nat_list_cmp_total) (on_total (λ (p : NumberedChange). p.0) nat_cmp_total)

tie_of : (o : Ordering) → (not (is_lt (ordering_reverse o)) && not (is_lt o)) ≡ is_eq o
tie_of Less = refl
tie_of Equal = refl
tie_of Greater = refl

-- Neither key is below the other exactly if they are alike.
tied_alike : {K : Type 0} (R : K → K → Ordering) (o : IsTotalOrder R) (k x : K) → (not (is_lt (R k x)) && not (is_lt (R x k))) ≡ is_eq (R x k)
tied_alike R o k x = ap (λ r. not (is_lt r) && not (is_lt (R x k))) (o.antisymm k x) ∙ tie_of (R x k)

-- A successful sort whose closure compares keys by a total order sorts by these keys.
pub sorted_by : {F X K T E : Type 0} (R : K → K → Ordering) (o : IsTotalOrder R) (key : X → K) (g : Mut F (Bor X × (Bor X × Unit {0})) Ordering) (f : F) (xs : List X) (r : Result T E) → OnOk r (IsSortedByClosure g f xs) → ComparesAs g (λ a b. is_lt (R (key a) (key b))) f → OnOk r (IsSortedByKey key R xs)
sorted_by R o key g f xs r sorted compares =
    on_ok_weaker {P = IsSortedByClosure g f xs} {Q = IsSortedByKey key R xs} r (λ h. h (λ a b. is_lt (R (key a) (key b))) (ranks_by o key) compares) sorted

-- Such a sort keeps the order of elements that are alike.
pub kept_by : {F X K : Type 0} (R : K → K → Ordering) (o : IsTotalOrder R) (key : X → K) (g : Mut F (Bor X × (Bor X × Unit {0})) Ordering) (f : F) (xs ys : List X) → IsStableByClosure g f xs ys → ComparesAs g (λ a b. is_lt (R (key a) (key b))) f → (y : X) → filter (λ x. is_eq (R (key x) (key y))) ys ≡ filter (λ x. is_eq (R (key x) (key y))) xs
kept_by {X = X} R o key g f xs ys stable compares y =
    let below : X → X → Bool = λ a b. is_lt (R (key a) (key b)) in
    let agree = filter_agree (ties below y) (λ x. is_eq (R (key x) (key y))) (λ x. tied_alike R o (key y) (key x)) in
    sym (agree ys) ∙ stable below (ranks_by o key) compares y ∙ agree xs
