-- Each path once, in order.
use Rattle.std.proofs.Common.{◌≡◌, ◌∙◌, ℕ, ◌+◌, Bool, true, false, List, [], ◌∷◌, slice_index_or, Vec, refl, sym, ap, cond, arith}
use Rattle.std.proofs.lemmas.Cmp.{nat_list_cmp_total, eq_by_cmp_equiv}
use Rattle.std.proofs.lemmas.List.{get_or-map, length-map}
use Rattle.std.proofs.lemmas.List.Kept.{Contains-dedup, Contains-from_dedup, IsStrictlySortedBy-dedup}
use Rattle.std.proofs.lemmas.List.Sorted.{Contains-permutation, IsPermutation-map, IsPermutation-sym}
use Rattle.std.proofs.lemmas.Map.Text.{is_eq-slice_cmp}
use Rattle.std.proofs.lemmas.Slice.Eq.{bytes_eq-Decides}
use Rattle.std.specs.Cmp.{IsEquivalence}
use Rattle.std.specs.Cmp.Lexicographic.{slice_cmp}
use Rattle.std.specs.Global.{Global}
use Rattle.std.specs.List.{dedup, dedup_from}
use Rattle.std.specs.List.Sorted.{IsPermutation, IsSorted, IsSortedByKey}
use Rattle.std.specs.Ordering.{eq_by_cmp, nat_cmp}
use Rattle.std.specs.Str.{bytes_eq}
use Rattle.git_untracked.specs.Lines.{AreInOrder, paths_of}

abbrev Path : Type 0
Path = Vec ℕ Global

-- The repeated paths are removed alike, as they are stored and as lists.
dedup_from_stored : (same : Path → Path → Bool) → ((a b : Path) → same a b ≡ bytes_eq a.items b.items) → (k : Path) (paths : List Path)
    → paths_of (dedup_from same k paths) ≡ dedup_from bytes_eq k.items (paths_of paths)
dedup_from_stored same is k [] = refl
dedup_from_stored same is k (path ∷ paths) =
    by_test (same path k) (bytes_eq path.items k.items) (is path k) (dedup_from_stored same is k paths) (dedup_from_stored same is path paths)
  where
    by_test : (b c : Bool) → b ≡ c → paths_of (dedup_from same k paths) ≡ dedup_from bytes_eq k.items (paths_of paths) → paths_of (dedup_from same path paths) ≡ dedup_from bytes_eq path.items (paths_of paths)
        → paths_of (cond b (dedup_from same k paths) (k ∷ dedup_from same path paths)) ≡ cond c (dedup_from bytes_eq k.items (paths_of paths)) (k.items ∷ dedup_from bytes_eq path.items (paths_of paths))
    by_test true true e kept more = kept
    by_test false false e kept more = ap (λ (xs : List (List ℕ)). k.items ∷ xs) more
    by_test true false e kept more = absurd (cc)
    by_test false true e kept more = absurd (cc)

pub dedup_stored : (same : Path → Path → Bool) → ((a b : Path) → same a b ≡ bytes_eq a.items b.items) → (paths : List Path) → paths_of (dedup same paths) ≡ dedup bytes_eq (paths_of paths)
dedup_stored same is [] = refl
dedup_stored same is (path ∷ paths) = dedup_from_stored same is path paths

-- Stored paths that ascend do so as lists.
sorted_lists : (paths : List Path) → IsSortedByKey (λ path. path.items) (slice_cmp nat_cmp) paths → IsSorted (slice_cmp nat_cmp) (paths_of paths)
sorted_lists [] sorted k d low inside = absurd (omega (arith, inside))
sorted_lists (path ∷ paths) sorted k d low inside =
    let all = path ∷ paths in
    let here : slice_index_or (paths_of all) k d ≡ (slice_index_or all k path).items = get_or-map (λ path. path.items) all k path d (omega (arith, inside, length-map all (λ path. path.items))) in
    let there : slice_index_or (paths_of all) (k + 1) d ≡ (slice_index_or all (k + 1) path).items = get_or-map (λ path. path.items) all (k + 1) path d (omega (arith, inside, length-map all (λ path. path.items))) in
    rw (here, there) (sorted k path low (omega (arith, inside, length-map all (λ path. path.items))))

bytes_ties : (xs ys : List ℕ) → bytes_eq xs ys ≡ eq_by_cmp (slice_cmp nat_cmp) xs ys
bytes_ties xs ys = sym (is_eq-slice_cmp xs ys)

bytes_equiv : IsEquivalence bytes_eq
bytes_equiv =
    let e = eq_by_cmp_equiv nat_list_cmp_total in
    record {
      refl = λ x. bytes_ties x x ∙ e.refl x;
      symm = λ x y. bytes_ties x y ∙ (e.symm x y ∙ sym (bytes_ties y x));
      congr = λ x y z same. bytes_ties x z ∙ (e.congr x y z (sym (bytes_ties x y) ∙ same) ∙ sym (bytes_ties y z));
    }

pub in_order : (found sorted : List Path) (lines : List (List ℕ)) → IsPermutation found sorted → IsSortedByKey (λ path. path.items) (slice_cmp nat_cmp) sorted
    → lines ≡ dedup bytes_eq (paths_of sorted) → AreInOrder (paths_of found) lines
in_order found sorted lines bag order once =
    let moved = IsPermutation-map (λ path. path.items) found sorted bag in
    rw once (record {
      order = IsStrictlySortedBy-dedup nat_list_cmp_total bytes_ties (paths_of sorted) (sorted_lists sorted order);
      same = λ path. (
        (λ there. Contains-dedup bytes_equiv (λ x y. (bytes_eq-Decides x y).0) (paths_of sorted) path (Contains-permutation (paths_of found) (paths_of sorted) path moved there)),
        (λ there. Contains-permutation (paths_of sorted) (paths_of found) path (IsPermutation-sym (paths_of found) (paths_of sorted) moved) (Contains-from_dedup bytes_eq (paths_of sorted) path there)),
      );
    })
