-- How often a check calls `lstat` for paths that ascend.
use Rattle.std.proofs.Common.{◌≡◌, ◌⊎◌, ℕ, zero, suc, ◌+◌, ◌<◌, ◌≤◌, Bool, true, false, not, cond, ◌||◌, IsTrue, List, [], ◌∷◌, ◌++◌, length, take, drop, Result, slice_index, nat_eq, refl, sym, ◌∙◌, ap, subst, inl, inr, arith, append_assoc, if◌then◌else◌}
use Rattle.std.specs.Prelude.{All}
use Rattle.std.specs.List.{filter, list_any, slice_index_or}
use Rattle.std.specs.Ordering.{nat_cmp, is_gt}
use Rattle.std.specs.Cmp.Lexicographic.{slice_cmp}
use Rattle.std.specs.declared.cmp.Ordering.{Ordering}
use Rattle.std.specs.declared.cmp.Ordering.TheVariants.{Less}
use Rattle.std.proofs.lemmas.List.{drop_more, length-append, take-append-drop}
use Rattle.std.proofs.lemmas.List.Elements.{All-nil, All-cons, All-head, All-tail, All-append, All-weaker}
use Rattle.std.proofs.lemmas.Bool.Decides.{Decides-eqb}
use Rattle.std.proofs.lemmas.Slice.Eq.{starts_is}
use Rattle.status_index.specs.declared.fault.Fault.{Fault}
use Rattle.status_index.specs.declared.stat.Metadata.{Metadata}
use Rattle.status_index.proofs.Stretches.{between}
use Rattle.status_base.specs.Paths.{is_slash, directories, directories_below, lies_above, new_directories}
use Rattle.status_base.specs.CheckState.{CheckState}
use Rattle.status_base.specs.Looks.{AreVerified, AreAscending, LooksLaw, directories_beside}

-- a front that a slash follows is above the path
above_own : (path : List ℕ) (k : ℕ) → k < length path → IsTrue (is_slash (slice_index path k)) → lies_above (take k path) path ≡ true
above_own path k within slash =
    let byte : slice_index path k ≡ 47 = (Decides-eqb (slice_index path k) 47).0 slash in
    let whole : path ≡ (take k path ++ 47 ∷ []) ++ drop (k + 1) path =
    sym (take-append-drop k path)
    ∙ ap (λ (v : List ℕ). take k path ++ v) (drop_more path k 0 within)
    ∙ ap (λ (b : ℕ). take k path ++ b ∷ drop (k + 1) path) byte
    ∙ sym (append_assoc (take k path) (47 ∷ []) (drop (k + 1) path)) in
    (starts_is {E = nat_eq} Decides-eqb path (take k path ++ 47 ∷ []) (lies_above (take k path) path) refl).1 (drop (k + 1) path) whole

pub all_last : (P : List ℕ → Type 0) (d : List ℕ) (slash : Bool) → (IsTrue slash → P d) → All P (if slash then d ∷ [] else [])
all_last P d true h = All-cons P d [] (h refl) (All-nil P)
all_last P d false h = All-nil P

pub all_above : (path : List ℕ) (n : ℕ) → n ≤ length path → All (λ (d : List ℕ). lies_above d path ≡ true) (directories_below path n)
all_above path zero within = All-nil (λ (d : List ℕ). lies_above d path ≡ true)
all_above path (suc n) within =
    let P : List ℕ → Type 0 = λ d. lies_above d path ≡ true in
    All-append P (directories_below path n) (if is_slash (slice_index path n) then take n path ∷ [] else []) (all_above path n (omega arith)) (all_last P (take n path) (is_slash (slice_index path n)) (above_own path n (omega arith)))

fewer_step : (a b : Bool) (d : List ℕ) (xs ys : List (List ℕ)) → (a ≡ true → b ≡ true) → length xs ≤ length ys → length (cond a (d ∷ xs) xs) ≤ length (cond b (d ∷ ys) ys)
fewer_step true true d xs ys h l = omega arith
fewer_step true false d xs ys h l = let no : false ≡ true = h refl in cc
fewer_step false true d xs ys h l = omega arith
fewer_step false false d xs ys h l = l

-- a weaker test keeps no fewer
fewer : (p q : List ℕ → Bool) (ds : List (List ℕ)) → All (λ (d : List ℕ). p d ≡ true → q d ≡ true) ds → length (filter p ds) ≤ length (filter q ds)
fewer p q [] h = omega arith
fewer p q (d ∷ ds) h =
    let P : List ℕ → Type 0 = λ d. p d ≡ true → q d ≡ true in
    fewer_step (p d) (q d) d (filter p ds) (filter q ds) (All-head P d ds h) (fewer p q ds (All-tail P d ds h))

not_step : (a b : Bool) → (b ≡ true → a ≡ true) → not a ≡ true → not b ≡ true
not_step a false h n = refl
not_step false true h n = h refl
not_step true true h n = n

-- a directory that is above an earlier path and above q is above `path`
abbrev Covers : List ℕ → List (List ℕ) → List ℕ → Type 0
Covers path earlier q = (d : List ℕ) → list_any (lies_above d) earlier ≡ true → lies_above d q ≡ true → lies_above d path ≡ true

new_few : (path : List ℕ) (earlier : List (List ℕ)) (q : List ℕ) → Covers path earlier q → length (new_directories path q) ≤ length (filter (λ (d : List ℕ). not (list_any (lies_above d) earlier)) (directories q))
new_few path earlier q covers =
    let p : List ℕ → Bool = λ d. not (lies_above d path) in
    let r : List ℕ → Bool = λ d. not (list_any (lies_above d) earlier) in
    fewer p r (directories q) (All-weaker (λ (d : List ℕ). lies_above d q ≡ true) (λ (d : List ℕ). p d ≡ true → r d ≡ true) (λ d above. not_step (lies_above d path) (list_any (lies_above d) earlier) (λ any. covers d any above)) (directories q) (all_above q (length q) (omega arith)))

pub or_cases : (a b : Bool) → (a || b) ≡ true → (a ≡ true) ⊎ (b ≡ true)
or_cases true b h = inl refl
or_cases false b h = inr h

not_greater : (o : Ordering) → o ≡ Less → is_gt o ≡ false
not_greater o less = ap is_gt less

-- paths that begin alike are next to each other in the order
covers_later : (path : List ℕ) (earlier : List (List ℕ)) (q later : List ℕ) → is_gt (slice_cmp nat_cmp path q) ≡ false → slice_cmp nat_cmp q later ≡ Less → Covers path earlier later → Covers q (q ∷ earlier) later
covers_later path earlier q later order less covers d any above =
    elim (or_cases (lies_above d q) (list_any (lies_above d) earlier) any) [
      | inl here ↦ here
      | inr before ↦ between (d ++ 47 ∷ []) path q later order (not_greater (slice_cmp nat_cmp q later) less) (covers d before above) above
    ]

looks_along : (modelled : Bool) (lstat : List ℕ → Result Metadata Fault) (qs : List (List ℕ)) (old new : CheckState) (path : List ℕ) (earlier : List (List ℕ)) → old.path ≡ path → All (λ (q : List ℕ). is_gt (slice_cmp nat_cmp path q) ≡ false) qs → AreAscending qs → All (Covers path earlier) qs → AreVerified modelled lstat old qs new → new.looks ≤ old.looks + length (directories_beside earlier qs)
looks_along modelled lstat [] old new path earlier at order ascends covers verified =
    let same : new.looks ≡ old.looks = ap (λ (s : CheckState). s.looks) verified in omega arith
looks_along modelled lstat (q ∷ qs) old new path earlier at order ascends covers verified =
    let mid : CheckState = verified.0 in
    let after = verified.2 in
    let P : List ℕ → Type 0 = λ p. mid.looks ≤ old.looks + length (new_directories p q) in
    let few : mid.looks ≤ old.looks + length (new_directories path q) = subst P at after.after.few in
    let kept : length (new_directories path q) ≤ length (filter (λ (d : List ℕ). not (list_any (lies_above d) earlier)) (directories q)) = new_few path earlier q (All-head (Covers path earlier) q qs covers) in
    let less : All (λ (later : List ℕ). slice_cmp nat_cmp q later ≡ Less) qs = λ k d within. ascends 0 (suc k) d (omega arith) (omega arith) in
    let rest : new.looks ≤ mid.looks + length (directories_beside (q ∷ earlier) qs) =
    looks_along modelled lstat qs mid new q (q ∷ earlier) after.path
    (λ k d within. not_greater (slice_cmp nat_cmp q (slice_index_or qs k d)) (less k d within))
    (λ i j d before within. ascends (suc i) (suc j) d (omega arith) (omega arith))
    (λ k d within. covers_later path earlier q (slice_index_or qs k d) (All-head (λ (later : List ℕ). is_gt (slice_cmp nat_cmp path later) ≡ false) q qs order) (less k d within) (All-tail (Covers path earlier) q qs covers k d within))
    verified.3 in
    omega (arith, length-append (filter (λ (d : List ℕ). not (list_any (lies_above d) earlier)) (directories q)) (directories_beside (q ∷ earlier) qs))

first_below : (q : List ℕ) → is_gt (slice_cmp nat_cmp [] q) ≡ false
first_below [] = refl
first_below (b ∷ q) = refl

pub looks_law : (modelled : Bool) (lstat : List ℕ → Result Metadata Fault) (old new : CheckState) (qs : List (List ℕ)) → LooksLaw modelled lstat old qs new
looks_law modelled lstat old new qs fresh ascends verified =
    looks_along modelled lstat qs old new [] [] fresh (λ k d within. first_below (slice_index_or qs k d)) ascends (λ k e within d any above. let no : false ≡ true = any in cc) verified
