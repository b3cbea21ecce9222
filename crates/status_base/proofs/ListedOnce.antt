-- The directories above some paths are listed once each.
use Rattle.std.proofs.Common.{◌≡◌, ◌≢◌, ◌⊎◌, ℕ, zero, suc, ◌+◌, ◌<◌, ◌≤◌, Bool, true, false, not, cond, ◌||◌, List, [], ◌∷◌, ◌++◌, length, take, drop, Contains, slice_index, nat_eq, refl, sym, ◌∙◌, ap, subst, inl, inr, arith, append_assoc, if◌then◌else◌}
use Rattle.std.specs.Prelude.{All, AllPairs}
use Rattle.std.specs.List.{filter, list_any, slice_index_or}
use Rattle.std.proofs.lemmas.List.{get_or_at, length-append, length-take-le, take_at}
use Rattle.std.proofs.lemmas.List.Elements.{All-nil, All-head, All-tail, All-append, All-weaker, All-filter, All-contains, All-contains_itself, filter_passes, Contains-append_left, Contains-append_right}
use Rattle.std.proofs.lemmas.List.Kept.{AllPairs-cons, AllPairs-filter}
use Rattle.std.proofs.lemmas.Bool.Decides.{Decides-eqb}
use Rattle.std.proofs.lemmas.Slice.Eq.{starts_is}
use Rattle.status_base.specs.Paths.{is_slash, directories, directories_below, lies_above}
use Rattle.status_base.specs.Looks.{ListedOnceLaw, StandsAbove, directories_beside, directories_above}
use Rattle.status_base.proofs.LinkLemmas.{directories_contain}
use Rattle.status_base.proofs.LooksLemmas.{all_above, all_last, or_cases}

abbrev Differ : List ℕ → List ℕ → Type 0
Differ a b = a ≢ b

pairs_append : (xs ys : List (List ℕ)) → AllPairs Differ xs → AllPairs Differ ys → All (λ (x : List ℕ). All (Differ x) ys) xs → AllPairs Differ (xs ++ ys)
pairs_append [] ys h k cross = k
pairs_append (x ∷ xs) ys h k cross =
    let P : List ℕ → Type 0 = λ x. All (Differ x) ys in
    let first : All (Differ x) xs = λ i d within. h 0 (suc i) d (omega arith) (omega arith) in
    AllPairs-cons Differ x (xs ++ ys) (All-append (Differ x) xs ys first (All-head P x xs cross)) (pairs_append xs ys (λ i j d before within. h (suc i) (suc j) d (omega arith) (omega arith)) k (All-tail P x xs cross))

no_pairs : AllPairs Differ []
no_pairs i j d before within = absurd (omega arith)

pairs_last : (d : List ℕ) (slash : Bool) → AllPairs Differ (if slash then d ∷ [] else [])
pairs_last d true = AllPairs-cons Differ d [] (All-nil (Differ d)) no_pairs
pairs_last d false = no_pairs

all_short : (path : List ℕ) (n : ℕ) → n ≤ length path → All (λ (d : List ℕ). length d < n) (directories_below path n)
all_short path zero within = All-nil (λ (d : List ℕ). length d < 0)
all_short path (suc n) within =
    let P : List ℕ → Type 0 = λ d. length d < n in
    let Q : List ℕ → Type 0 = λ d. length d < suc n in
    All-append Q (directories_below path n) (if is_slash (slice_index path n) then take n path ∷ [] else []) (All-weaker P Q (λ d short. omega arith) (directories_below path n) (all_short path n (omega arith))) (all_last Q (take n path) (is_slash (slice_index path n)) (λ _. omega (arith, length-take-le n path (omega arith))))

distinct : (path : List ℕ) (n : ℕ) → n ≤ length path → AllPairs Differ (directories_below path n)
distinct path zero within = no_pairs
distinct path (suc n) within =
    let slash : Bool = is_slash (slice_index path n) in
    let last : List (List ℕ) = if slash then take n path ∷ [] else [] in
    let long : length (take n path) ≡ n = length-take-le n path (omega arith) in
    pairs_append (directories_below path n) last (distinct path n (omega arith)) (pairs_last (take n path) slash) (All-weaker (λ (d : List ℕ). length d < n) (λ (d : List ℕ). All (Differ d) last) (λ d short. all_last (Differ d) (take n path) slash (λ _ same. let e : length d ≡ length (take n path) = ap length same in omega arith)) (directories_below path n) (all_short path n (omega arith)))

not_true : (b : Bool) → not b ≡ true → b ≡ false
not_true true h = let no : false ≡ true = h in cc
not_true false h = refl

false_left : (a b : Bool) → (a || b) ≡ false → a ≡ false
false_left true b h = h
false_left false b h = refl

false_right : (a b : Bool) → (a || b) ≡ false → b ≡ false
false_right true b h = let no : true ≡ false = h in cc
false_right false b h = h

abbrev is_unseen : List (List ℕ) → List ℕ → Bool
is_unseen earlier d = not (list_any (lies_above d) earlier)

-- a listed directory is above no earlier path
all_unseen : (earlier qs : List (List ℕ)) → All (λ (d : List ℕ). list_any (lies_above d) earlier ≡ false) (directories_beside earlier qs)
all_unseen earlier [] = All-nil (λ (d : List ℕ). list_any (lies_above d) earlier ≡ false)
all_unseen earlier (q ∷ qs) =
    let P : List ℕ → Type 0 = λ d. list_any (lies_above d) earlier ≡ false in
    let Q : List ℕ → Type 0 = λ d. is_unseen earlier d ≡ true in
    let R : List ℕ → Type 0 = λ d. list_any (lies_above d) (q ∷ earlier) ≡ false in
    All-append P (filter (is_unseen earlier) (directories q)) (directories_beside (q ∷ earlier) qs) (All-weaker Q P (λ d unseen. not_true (list_any (lies_above d) earlier) unseen) (filter (is_unseen earlier) (directories q)) (filter_passes (is_unseen earlier) (directories q))) (All-weaker R P (λ d unseen. false_right (lies_above d q) (list_any (lies_above d) earlier) unseen) (directories_beside (q ∷ earlier) qs) (all_unseen (q ∷ earlier) qs))

apart : (q a b : List ℕ) → lies_above a q ≡ true → lies_above b q ≡ false → a ≡ b → ⊥
apart q a b above beside same = let e : lies_above a q ≡ lies_above b q = ap (λ (d : List ℕ). lies_above d q) same in cc

all_differ : (earlier qs : List (List ℕ)) → AllPairs Differ (directories_beside earlier qs)
all_differ earlier [] = no_pairs
all_differ earlier (q ∷ qs) =
    let heads : List (List ℕ) = filter (is_unseen earlier) (directories q) in
    let tails : List (List ℕ) = directories_beside (q ∷ earlier) qs in
    let P : List ℕ → Type 0 = λ d. lies_above d q ≡ true in
    let R : List ℕ → Type 0 = λ d. list_any (lies_above d) (q ∷ earlier) ≡ false in
    pairs_append heads tails (AllPairs-filter Differ (is_unseen earlier) (directories q) (distinct q (length q) (omega arith))) (all_differ (q ∷ earlier) qs) (All-weaker P (λ (d : List ℕ). All (Differ d) tails) (λ a above. All-weaker R (Differ a) (λ b unseen. apart q a b above (false_left (lies_above b q) (list_any (lies_above b) earlier) unseen)) tails (all_unseen (q ∷ earlier) qs)) heads (All-filter (is_unseen earlier) P (directories q) (all_above q (length q) (omega arith))))

kept_behind : (b : Bool) (y x : List ℕ) (zs : List (List ℕ)) → Contains zs x → Contains (cond b (y ∷ zs) zs) x
kept_behind true y x zs c = (suc c.0, omega (arith, c.1), c.2)
kept_behind false y x zs c = c

-- an element that passes the test is kept
kept_at : (p : List ℕ → Bool) (ys : List (List ℕ)) (x : List ℕ) (k : ℕ) → k < length ys → slice_index_or ys k x ≡ x → p x ≡ true → Contains (filter p ys) x
kept_at p [] x k within is passes = absurd (omega arith)
kept_at p (y ∷ ys) x zero within is passes =
    let here : y ≡ x = is in
    let yes : p y ≡ true = ap p here ∙ passes in
    let first : filter p (y ∷ ys) ≡ y ∷ filter p ys = ap (λ (b : Bool). cond b (y ∷ filter p ys) (filter p ys)) yes in
    let P : List (List ℕ) → Type 0 = λ v. Contains v x in
    subst P (sym first) (0, omega arith, here)
kept_at p (y ∷ ys) x (suc k) within is passes =
    kept_behind (p y) y x (filter p ys) (kept_at p ys x k (omega arith) is passes)

seen_or_kept : (seen : Bool) (d : List ℕ) (heads : List (List ℕ)) → (not seen ≡ true → Contains heads d) → (seen ≡ true) ⊎ Contains heads d
seen_or_kept true d heads kept = inl refl
seen_or_kept false d heads kept = inr (kept refl)

head_listed : (earlier : List (List ℕ)) (q d : List ℕ) → Contains (directories q) d → (list_any (lies_above d) earlier ≡ true) ⊎ Contains (filter (is_unseen earlier) (directories q)) d
head_listed earlier q d above =
    seen_or_kept (list_any (lies_above d) earlier) d (filter (is_unseen earlier) (directories q)) (λ unseen. kept_at (is_unseen earlier) (directories q) d above.0 above.1 above.2 unseen)

-- a directory above a path is one of the path's directories
contains_above : (q d : List ℕ) → lies_above d q ≡ true → Contains (directories q) d
contains_above q d above =
    let rest : List ℕ = drop (length (d ++ 47 ∷ [])) q in
    let begins : q ≡ d ++ 47 ∷ rest = (starts_is {E = nat_eq} Decides-eqb q (d ++ 47 ∷ []) true (sym above)).0 refl ∙ append_assoc d (47 ∷ []) rest in
    let longer : length q ≡ length d + length (47 ∷ rest) = ap length begins ∙ length-append d (47 ∷ rest) in
    let byte : slice_index q (length d) ≡ 47 = ap (λ (v : List ℕ). slice_index v (length d)) begins ∙ get_or_at d 47 rest 0 (length d) refl in
    let front : take (length d) q ≡ d = ap (take (length d)) begins ∙ take_at d (47 ∷ rest) (length d) refl in
    let P : List ℕ → Type 0 = λ v. Contains (directories q) v in
    subst P front (directories_contain q (length d) (omega arith) ((Decides-eqb (slice_index q (length d)) 47).1 byte))

listed : (earlier qs : List (List ℕ)) (q d : List ℕ) (k : ℕ) → k < length qs → slice_index_or qs k q ≡ q → Contains (directories q) d → (list_any (lies_above d) earlier ≡ true) ⊎ Contains (directories_beside earlier qs) d
listed earlier [] q d k within is above = absurd (omega arith)
listed earlier (first ∷ qs) q d zero within is above =
    let P : List ℕ → Type 0 = λ v. Contains (directories v) d in
    let here : first ≡ q = is in
    elim (head_listed earlier first d (subst P (sym here) above)) [
      | inl seen ↦ inl seen
      | inr kept ↦ inr (Contains-append_left (filter (is_unseen earlier) (directories first)) (directories_beside (first ∷ earlier) qs) d kept)
    ]
listed earlier (first ∷ qs) q d (suc k) within is above =
    elim (listed (first ∷ earlier) qs q d k (omega arith) is above) [
      | inl seen ↦ elim (or_cases (lies_above d first) (list_any (lies_above d) earlier) seen) [
        | inl here ↦ elim (head_listed earlier first d (contains_above first d here)) [
          | inl before ↦ inl before
          | inr kept ↦ inr (Contains-append_left (filter (is_unseen earlier) (directories first)) (directories_beside (first ∷ earlier) qs) d kept)
        ]
        | inr before ↦ inl before
      ]
      | inr kept ↦ inr (Contains-append_right (filter (is_unseen earlier) (directories first)) (directories_beside (first ∷ earlier) qs) d kept)
    ]

unless_seen : (P : Type 0) → (false ≡ true) ⊎ P → P
unless_seen P (inl seen) = cc
unless_seen P (inr kept) = kept

above_later : (q : List ℕ) (qs : List (List ℕ)) (d : List ℕ) → StandsAbove qs d → StandsAbove (q ∷ qs) d
above_later q qs d (first, within, above) = (first, (suc within.0, omega (arith, within.1), within.2), above)

-- a listed directory is above one of the paths
all_stand_above : (earlier qs : List (List ℕ)) → All (StandsAbove qs) (directories_beside earlier qs)
all_stand_above earlier [] = All-nil (StandsAbove [])
all_stand_above earlier (q ∷ qs) =
    let P : List ℕ → Type 0 = Contains (directories q) in
    let here : (d : List ℕ) → P d → StandsAbove (q ∷ qs) d = λ d above. (q, (0, omega arith, refl), above) in
    All-append (StandsAbove (q ∷ qs)) (filter (is_unseen earlier) (directories q)) (directories_beside (q ∷ earlier) qs) (All-weaker P (StandsAbove (q ∷ qs)) here (filter (is_unseen earlier) (directories q)) (All-filter (is_unseen earlier) P (directories q) (All-contains_itself (directories q)))) (All-weaker (StandsAbove qs) (StandsAbove (q ∷ qs)) (above_later q qs) (directories_beside (q ∷ earlier) qs) (all_stand_above (q ∷ earlier) qs))

pub listed_once_law : (qs : List (List ℕ)) → ListedOnceLaw qs
listed_once_law qs = record {
  once = all_differ [] qs;
  all = λ d above. unless_seen (Contains (directories_above qs) d) (listed [] qs above.0 d above.1.0 above.1.1 above.1.2 above.2);
  only = λ d listed. All-contains (StandsAbove qs) (directories_above qs) d (all_stand_above [] qs) listed;
}
