-- Staged changes in the order of paths.
use Rattle.std.proofs.Common.{◌≡◌, ℕ, ◌+◌, ◌<◌, List, [], ◌∷◌, length, map, slice_index_or, arith}
use Rattle.std.specs.Cmp.Lexicographic.{slice_cmp}
use Rattle.std.specs.List.Sorted.{IsSortedBy, IsSortedByKey}
use Rattle.std.specs.Ordering.{nat_cmp}
use Rattle.std.proofs.lemmas.List.{get_or-map, length-map}
use Rattle.git_staged.specs.Staged.{staged_view}
use Rattle.git_staged.specs.declared.staged.Staged.{Staged}

-- A list that is sorted by its paths has them in order.
pub views_sorted : (xs : List Staged) → IsSortedByKey (λ s. s.path.items) (slice_cmp nat_cmp) xs → IsSortedByKey (λ change. change.0) (slice_cmp nat_cmp) (map staged_view xs)
views_sorted [] h k d from within = absurd (omega arith)
views_sorted (x ∷ xs) h k d from within =
    let long : k + 1 < length (x ∷ xs) = omega (arith, within, length-map (x ∷ xs) staged_view) in
    let one : slice_index_or (map staged_view (x ∷ xs)) (k + 1) d ≡ staged_view (slice_index_or (x ∷ xs) (k + 1) x) = get_or-map staged_view (x ∷ xs) (k + 1) x d long in
    let two : slice_index_or (map staged_view (x ∷ xs)) k d ≡ staged_view (slice_index_or (x ∷ xs) k x) = get_or-map staged_view (x ∷ xs) k x d (omega arith) in
    rw (one, two) (h k x from long)
