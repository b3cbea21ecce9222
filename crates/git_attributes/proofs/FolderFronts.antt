-- The folders on the way to a path: the next one, and those that aren't on the way to another path.
use Rattle.std.proofs.Common.{◌≡◌, ℕ, suc, ◌+◌, ◌<◌, ◌≤◌, Bool, true, false, not, cond, ltb, List, [], ◌∷◌, ◌++◌, length, take, drop, position, Some, None, slice_index, get_or, nat_eq, refl, sym, ◌∙◌, ap, arith, append_assoc, if◌then◌else◌}
use Rattle.std.specs.List.{All, filter, starts_with, position_or_len}
use Rattle.std.proofs.Math.Seq.{take-add, take-append_seam, take-suc, drop-cons}
use Rattle.std.proofs.lemmas.Bool.{ltb-false}
use Rattle.std.proofs.lemmas.Bool.Decides.{Decides-eqb, nat_tests}
use Rattle.std.proofs.lemmas.List.{append-nil, drop-drop, get_or-take, get_or_at, length-append, length-drop, length-take-le, take-append-drop}
use Rattle.std.proofs.lemmas.List.Elements.{All-head, All-tail, All-from_get_or, filter-append}
use Rattle.std.proofs.lemmas.List.Sums.{fails_before_first}
use Rattle.std.proofs.lemmas.List.Quantifiers.{position-Some}
use Rattle.std.proofs.lemmas.Slice.Eq.{starts_is}
use Rattle.status_base.specs.Common.{IsCommon}
use Rattle.status_base.specs.Paths.{is_slash}
use Rattle.git_attributes.specs.WorktreeFiles.{folders_from, new_folders}
use Rattle.git_attributes.specs.FolderSteps.{IsIn, IsNextFolder}

-- bytes without a slash end no folder
folders_bare : (front xs ys : List ℕ) → All (λ (b : ℕ). is_slash b ≡ false) xs → folders_from front (xs ++ ys) ≡ folders_from (front ++ xs) ys
folders_bare front [] ys bare = ap (λ (v : List ℕ). folders_from v ys) (sym (append-nil front))
folders_bare front (b ∷ xs) ys bare =
    let next : List ℕ = front ++ b ∷ [] in
    ap (λ (slash : Bool). (if slash then next ∷ [] else []) ++ folders_from next (xs ++ ys)) (All-head (λ (c : ℕ). is_slash c ≡ false) b xs bare)
    ∙ folders_bare next xs ys (All-tail (λ (c : ℕ). is_slash c ≡ false) b xs bare)
    ∙ ap (λ (v : List ℕ). folders_from v ys) (append_assoc front (b ∷ []) xs)

none_past : (test : Bool) (n : ℕ) → cond test (Some n) None ≡ None → test ≡ false
none_past true n h = absurd (cc)
none_past false n h = refl

pub none_bare : (path : List ℕ) → position is_slash path ≡ None → All (λ (b : ℕ). is_slash b ≡ false) path
none_bare path none =
    let past = none_past (ltb (position_or_len is_slash path) (length path)) (position_or_len is_slash path) none in
    let far = ltb-false (position_or_len is_slash path) (length path) past in
    All-from_get_or (λ (b : ℕ). is_slash b ≡ false) path 0 (λ k within. fails_before_first is_slash path k 0 (omega arith))

-- without a slash there is no folder
pub folders_none : (front path : List ℕ) → position is_slash path ≡ None → folders_from front path ≡ []
folders_none front path none =
    ap (folders_from front) (sym (append-nil path)) ∙ folders_bare front path [] (none_bare path none)

-- a slash ends the next folder
pub folders_slash : (front xs ys : List ℕ) (b : ℕ) → All (λ (c : ℕ). is_slash c ≡ false) xs → is_slash b ≡ true
    → folders_from front (xs ++ b ∷ ys) ≡ ((front ++ xs) ++ b ∷ []) ∷ folders_from ((front ++ xs) ++ b ∷ []) ys
folders_slash front xs ys b bare slash =
    let next : List ℕ = (front ++ xs) ++ b ∷ [] in
    folders_bare front xs (b ∷ ys) bare
    ∙ ap (λ (it : Bool). (if it then next ∷ [] else []) ++ folders_from next ys) slash

slash_is : (b : ℕ) → is_slash b ≡ true → b ≡ 47
slash_is b slash = grind (arith, nat_tests)

-- the next folder from a position on
pub next_some : (path : List ℕ) (at k : ℕ) → at ≤ length path → position is_slash (drop at path) ≡ Some k → IsNextFolder path at (Some ((at + k) + 1))
next_some path at k within is =
    let found = position-Some is_slash (drop at path) k 0 is in
    let long : length (drop at path) + at ≡ length path = omega (arith, length-drop at path) in
    let less : k < length (drop at path) = found.0 in
    let b : ℕ = get_or (drop at path) k 0 in
    let bare : All (λ (c : ℕ). is_slash c ≡ false) (take k (drop at path)) =
    All-from_get_or (λ (c : ℕ). is_slash c ≡ false) (take k (drop at path)) 0 (λ j below.
    let earlier : j < k = omega (arith, length-take-le k (drop at path) (omega arith)) in
    ap is_slash (get_or-take k (drop at path) j 0 earlier) ∙ found.2 j earlier) in
    let parts : drop at path ≡ take k (drop at path) ++ b ∷ drop (suc k) (drop at path) =
    sym (take-append-drop k (drop at path)) ∙ ap (λ (v : List ℕ). take k (drop at path) ++ v) (drop-cons (drop at path) k 0 less) in
    let count : (at + k) + 1 ≡ at + suc k = omega arith in
    let front : (take at path ++ take k (drop at path)) ++ b ∷ [] ≡ take ((at + k) + 1) path =
    append_assoc (take at path) (take k (drop at path)) (b ∷ [])
    ∙ ap (λ (v : List ℕ). take at path ++ v) (sym (take-suc (drop at path) k 0 less))
    ∙ sym (take-add at (suc k) path)
    ∙ sym (ap (λ (n : ℕ). take n path) count) in
    let rest : drop (suc k) (drop at path) ≡ drop ((at + k) + 1) path =
    drop-drop (suc k) at path ∙ sym (ap (λ (n : ℕ). drop n path) count) in (
      omega arith,
      omega arith,
      (take at path ++ take k (drop at path), sym front ∙ ap (λ (c : ℕ). (take at path ++ take k (drop at path)) ++ c ∷ []) (slash_is b found.1)),
      ap (folders_from (take at path)) parts
          ∙ folders_slash (take at path) (take k (drop at path)) (drop (suc k) (drop at path)) b bare found.1
          ∙ ap (λ (v : List ℕ). v ∷ folders_from v (drop (suc k) (drop at path))) front
          ∙ ap (λ (v : List ℕ). take ((at + k) + 1) path ∷ folders_from (take ((at + k) + 1) path) v) rest,
    )

-- ---- two paths

-- the folders of two parts of a path
folders_both : (front xs ys : List ℕ) → folders_from front (xs ++ ys) ≡ folders_from front xs ++ folders_from (front ++ xs) ys
folders_both front [] ys = ap (λ (v : List ℕ). folders_from v ys) (sym (append-nil front))
folders_both front (b ∷ xs) ys =
    let next : List ℕ = front ++ b ∷ [] in
    let here : List (List ℕ) = if is_slash b then next ∷ [] else [] in
    ap (λ (v : List (List ℕ)). here ++ v) (folders_both next xs ys ∙ ap (λ (v : List ℕ). folders_from next xs ++ folders_from v ys) (append_assoc front (b ∷ []) xs))
    ∙ sym (append_assoc here (folders_from next xs) (folders_from (front ++ b ∷ xs) ys))

false_unless : (b : Bool) → (b ≡ true → ⊥) → b ≡ false
false_unless true h = absurd (h refl)
false_unless false h = refl

abbrev keep : List ℕ → List ℕ → Bool
keep whole folder = not (starts_with nat_eq whole folder)

left_out : (p : List ℕ → Bool) (next : List ℕ) (slash : Bool) (others : List (List ℕ)) → p next ≡ false → filter p others ≡ [] → filter p ((if slash then next ∷ [] else []) ++ others) ≡ []
left_out p next true others here rest = ap (λ (v : Bool). cond v (next ∷ filter p others) (filter p others)) here ∙ rest
left_out p next false others here rest = rest

kept : (p : List ℕ → Bool) (next : List ℕ) (slash : Bool) (others : List (List ℕ)) → p next ≡ true → filter p others ≡ others → filter p ((if slash then next ∷ [] else []) ++ others) ≡ (if slash then next ∷ [] else []) ++ others
kept p next true others here rest = ap (λ (v : Bool). cond v (next ∷ filter p others) (filter p others)) here ∙ ap (λ (v : List (List ℕ)). next ∷ v) rest
kept p next false others here rest = rest

-- the folders within a front of another path are left out
none_new : (whole front xs rest : List ℕ) → whole ≡ (front ++ xs) ++ rest → filter (keep whole) (folders_from front xs) ≡ []
none_new whole front [] rest begins = refl
none_new whole front (b ∷ xs) rest begins =
    let next : List ℕ = front ++ b ∷ [] in
    let later : whole ≡ (next ++ xs) ++ rest = begins ∙ ap (λ (v : List ℕ). v ++ rest) (sym (append_assoc front (b ∷ []) xs)) in
    let is : starts_with nat_eq whole next ≡ true = (starts_is {E = nat_eq} Decides-eqb whole next (starts_with nat_eq whole next) refl).1 (xs ++ rest) (later ∙ append_assoc next xs rest) in
    left_out (keep whole) next (is_slash b) (folders_from next xs) (ap not is) (none_new whole next xs rest later)

-- no path begins with this front
abbrev NeverBegins : List ℕ → List ℕ → Type 0
NeverBegins whole front = (more : List ℕ) → starts_with nat_eq whole (front ++ more) ≡ false

all_later : (whole next path : List ℕ) → NeverBegins whole next → filter (keep whole) (folders_from next path) ≡ folders_from next path
all_later whole next [] never = refl
all_later whole next (c ∷ path) never =
    let after : List ℕ = next ++ c ∷ [] in
    let later : NeverBegins whole after = λ more. ap (starts_with nat_eq whole) (append_assoc next (c ∷ []) more) ∙ never (c ∷ more) in
    let here : starts_with nat_eq whole after ≡ false = never (c ∷ []) in
    kept (keep whole) after (is_slash c) (folders_from after path) (ap not here) (all_later whole after path later)

all_new : (whole front : List ℕ) (b : ℕ) (path : List ℕ) → NeverBegins whole (front ++ b ∷ []) → filter (keep whole) (folders_from front (b ∷ path)) ≡ folders_from front (b ∷ path)
all_new whole front b path never =
    let next : List ℕ = front ++ b ∷ [] in
    let here : starts_with nat_eq whole next ≡ false = ap (starts_with nat_eq whole) (sym (append-nil next)) ∙ never [] in
    kept (keep whole) next (is_slash b) (folders_from next path) (ap not here) (all_later whole next path never)

-- another path doesn't begin with a path's front that is longer than what they have in common
never_begins : (one path rest : List ℕ) (n b : ℕ) → IsCommon one path n → drop n path ≡ b ∷ rest → NeverBegins one (take n path ++ b ∷ [])
never_begins one path rest n b common is more =
    let front : List ℕ = take n path in
    let begin : List ℕ = (front ++ b ∷ []) ++ more in
    let long : length front ≡ n = length-take-le n path common.within in
    let parts : path ≡ front ++ b ∷ rest = sym (take-append-drop n path) ∙ ap (λ (v : List ℕ). front ++ v) is in
    false_unless (starts_with nat_eq one begin) (λ yes.
    let tail : List ℕ = drop (length begin) one in
    let begins : one ≡ begin ++ tail = (starts_is {E = nat_eq} Decides-eqb one begin true (sym yes)).0 refl in
    let other : one ≡ front ++ b ∷ (more ++ tail) =
    begins ∙ ap (λ (v : List ℕ). v ++ tail) (append_assoc front (b ∷ []) more) ∙ append_assoc front (b ∷ more) tail in
    let here : slice_index one n ≡ b = ap (λ (v : List ℕ). slice_index v n) other ∙ get_or_at front b (more ++ tail) 0 n long in
    let there : slice_index path n ≡ b = ap (λ (v : List ℕ). slice_index v n) parts ∙ get_or_at front b rest 0 n long in
    let long_one : length one ≡ length front + suc (length (more ++ tail)) = ap length other ∙ length-append front (b ∷ (more ++ tail)) in
    let long_path : length path ≡ length front + suc (length rest) = ap length parts ∙ length-append front (b ∷ rest) in
    common.most (omega arith) (omega arith) (here ∙ sym there))

kept_behind : (one path ys : List ℕ) (n : ℕ) → IsCommon one path n → drop n path ≡ ys → filter (keep one) (folders_from (take n path) ys) ≡ folders_from (take n path) ys
kept_behind one path [] n common is = refl
kept_behind one path (b ∷ ys) n common is = all_new one (take n path) b ys (never_begins one path ys n b common is)

-- the folders that aren't on the way to another path are those after the common front of the paths
pub new_folders_are : (one path : List ℕ) (n : ℕ) → IsCommon one path n → new_folders one path ≡ folders_from (take n path) (drop n path)
new_folders_are one path n common =
    let begins : one ≡ ([] ++ take n path) ++ drop n one = sym (take-append-drop n one) ∙ ap (λ (v : List ℕ). v ++ drop n one) common.same in
    ap (λ (v : List ℕ). filter (keep one) (folders_from [] v)) (sym (take-append-drop n path))
    ∙ ap (filter (keep one)) (folders_both [] (take n path) (drop n path))
    ∙ filter-append (keep one) (folders_from [] (take n path)) (folders_from (take n path) (drop n path))
    ∙ ap (λ (v : List (List ℕ)). v ++ filter (keep one) (folders_from (take n path) (drop n path))) (none_new one [] (take n path) (drop n one) begins)
    ∙ kept_behind one path (drop n path) n common refl

-- a path in a folder of which the path before it begins has no new folders
pub nothing_new : (one path folder : List ℕ) → starts_with nat_eq one folder ≡ true → IsIn folder path → new_folders one path ≡ []
nothing_new one path folder begins inside =
    let n : ℕ = length folder in
    let front : List ℕ = take n path in
    let tail : List ℕ = drop n path in
    let same : path ≡ folder ++ tail = (starts_is {E = nat_eq} Decides-eqb path folder true (sym inside.begins)).0 refl in
    let own : front ≡ folder = ap (take n) same ∙ take-append_seam folder tail in
    let parts : path ≡ front ++ tail = sym (take-append-drop n path) in
    let whole : one ≡ ([] ++ front) ++ drop n one = (starts_is {E = nat_eq} Decides-eqb one folder true (sym begins)).0 refl ∙ ap (λ (v : List ℕ). v ++ drop n one) (sym own) in
    ap (λ (v : List ℕ). filter (keep one) (folders_from [] v)) parts
    ∙ ap (filter (keep one)) (folders_both [] front tail)
    ∙ ap (λ (v : List (List ℕ)). filter (keep one) (folders_from [] front ++ v)) inside.bare
    ∙ ap (filter (keep one)) (append-nil (folders_from [] front))
    ∙ none_new one [] front (drop n one) whole
