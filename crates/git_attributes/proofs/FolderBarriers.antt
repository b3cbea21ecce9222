-- What bars the way to the file of a folder bars the way to those of the folders below.
use Rattle.std.proofs.Common.{◌≡◌, ◌≢◌, ℕ, zero, suc, ◌+◌, ◌-◌, ◌<◌, ◌≤◌, Bool, true, false, cond, List, [], ◌∷◌, ◌++◌, length, take, Option, Some, None, slice_index, codes, refl, sym, ◌∙◌, ap, inl, inr, arith, append_assoc, if◌then◌else◌}
use Rattle.std.specs.List.{All, find, onto_first}
use Rattle.std.specs.Option.{option_or}
use Rattle.std.proofs.lemmas.Bool.{cases_lt}
use Rattle.std.proofs.lemmas.List.{append-nil, get_or_append_left, get_or-append_right, length-append, take-append-le}
use Rattle.std.proofs.lemmas.List.Elements.{All-from_recursion, All-get_or}
use Rattle.std.proofs.lemmas.List.Folds.{find-append}
use Rattle.std.proofs.lemmas.List.Splits.{length-slice_split, slice_split-cons_yes}
use Rattle.status_index.specs.declared.fault.Fault.{Fault}
use Rattle.status_index.specs.declared.fault.Fault.TheVariants as faults
use Rattle.status_base.specs.Paths.{is_slash, is_abnormal, components, abnormal_component, directories, directories_below}
use Rattle.status_base.specs.LinkCheck.{LinkCheck, Barrier, accepted, empty_path, not_normal, through_link, faulty, decided, barrier_of, leftmost_barrier, link_check}
use Rattle.status_base.specs.Sights.{Stats}
use Rattle.status_base.proofs.LinkLemmas.{link_check_abnormal, link_check_normal}
use Rattle.git_attributes.specs.WorktreeFiles.{Search, nothing, out_of_memory, at_fault, checked_search}

-- ---- the components

onto_append : (x : ℕ) (parts others : List (List ℕ)) → 0 < length parts → onto_first x (parts ++ others) ≡ onto_first x parts ++ others
onto_append x [] others some = absurd (omega arith)
onto_append x (part ∷ parts) others some = refl

split_step : (b : Bool) (x : ℕ) (parts others : List (List ℕ)) → 0 < length parts → cond b ([] ∷ (parts ++ others)) (onto_first x (parts ++ others)) ≡ cond b ([] ∷ parts) (onto_first x parts) ++ others
split_step true x parts others some = refl
split_step false x parts others some = onto_append x parts others some

split_at_slash : (xs ys : List ℕ) → components (xs ++ 47 ∷ ys) ≡ components xs ++ components ys
split_at_slash [] ys = slice_split-cons_yes is_slash 47 ys refl
split_at_slash (x ∷ xs) ys =
    ap (λ (v : List (List ℕ)). cond (is_slash x) ([] ∷ v) (onto_first x v)) (split_at_slash xs ys)
    ∙ split_step (is_slash x) x (components xs) (components ys) (omega (arith, length-slice_split is_slash xs))

abnormal_split : (xs ys : List ℕ) → abnormal_component (xs ++ 47 ∷ ys) ≡ option_or (abnormal_component xs) (abnormal_component ys)
abnormal_split xs ys =
    ap (find is_abnormal) (split_at_slash xs ys) ∙ find-append is_abnormal (components xs) (components ys)

-- ---- the directories

abbrev last : List ℕ → ℕ → List (List ℕ)
last path n = if is_slash (slice_index path n) then take n path ∷ [] else []

-- the directories within a common front
same_directories : (xs ys zs : List ℕ) (n : ℕ) → n ≤ length xs → directories_below (xs ++ ys) n ≡ directories_below (xs ++ zs) n
same_directories xs ys zs zero within = refl
same_directories xs ys zs (suc n) within =
    let byte : slice_index (xs ++ ys) n ≡ slice_index (xs ++ zs) n = get_or_append_left xs ys 0 n (omega arith) ∙ sym (get_or_append_left xs zs 0 n (omega arith)) in
    let front : take n (xs ++ ys) ≡ take n (xs ++ zs) = take-append-le n xs ys (omega arith) ∙ sym (take-append-le n xs zs (omega arith)) in
    ap (λ (v : List (List ℕ)). v ++ last (xs ++ ys) n) (same_directories xs ys zs n (omega arith))
    ∙ ap (λ (b : ℕ). directories_below (xs ++ zs) n ++ (if is_slash b then take n (xs ++ ys) ∷ [] else [])) byte
    ∙ ap (λ (d : List ℕ). directories_below (xs ++ zs) n ++ (if is_slash (slice_index (xs ++ zs) n) then d ∷ [] else [])) front

-- a longer front has these directories first
more_directories : (path : List ℕ) (n k : ℕ) → n ≤ k → (others : List (List ℕ)) × (directories_below path k ≡ directories_below path n ++ others)
more_directories path n zero within =
    let same : n ≡ 0 = omega arith in
    ([], sym (append-nil (directories_below path n) ∙ ap (directories_below path) same))
more_directories path n (suc k) within =
    elim (cases_lt k n) [
      | inl later ↦ (let same : n ≡ suc k = omega arith in
          ([], sym (append-nil (directories_below path n) ∙ ap (directories_below path) same)))
      | inr earlier ↦ (let more = more_directories path n k earlier in
          (more.0 ++ last path k, ap (λ (v : List (List ℕ)). v ++ last path k) more.1 ∙ append_assoc (directories_below path n) more.0 (last path k)))
    ]

-- and no others if no slash follows
bare_directories : (path : List ℕ) (n k : ℕ) → n ≤ k → ((j : ℕ) → n ≤ j → j < k → is_slash (slice_index path j) ≡ false) → directories_below path k ≡ directories_below path n
bare_directories path n zero within bare =
    let same : n ≡ 0 = omega arith in sym (ap (directories_below path) same)
bare_directories path n (suc k) within bare =
    elim (cases_lt k n) [
      | inl later ↦ (let same : n ≡ suc k = omega arith in sym (ap (directories_below path) same))
      | inr earlier ↦ (ap (λ (b : Bool). directories_below path k ++ (if b then take k path ∷ [] else [])) (bare k earlier (omega arith))
          ∙ append-nil (directories_below path k)
          ∙ bare_directories path n k earlier (λ j from below. bare j from (omega arith)))
    ]

-- ---- the barrier

decided_more : (d : List ℕ) (b : Option Barrier) (one other : LinkCheck) → (one ≢ accepted → other ≡ one) → decided d b one ≢ accepted → decided d b other ≡ decided d b one
decided_more d (Some b) one other same refused = refl
decided_more d None one other same refused = same refused

leftmost_more : (lstat : Stats) (ds others : List (List ℕ)) → leftmost_barrier lstat ds ≢ accepted → leftmost_barrier lstat (ds ++ others) ≡ leftmost_barrier lstat ds
leftmost_more lstat [] others refused = absurd (refused refl)
leftmost_more lstat (d ∷ ds) others refused =
    decided_more d (barrier_of (lstat d)) (leftmost_barrier lstat ds) (leftmost_barrier lstat (ds ++ others)) (leftmost_more lstat ds others) refused

-- ---- the name of attribute files

abbrev pub name : List ℕ
name = codes ".gitattributes"

name_bare : All (λ (b : ℕ). is_slash b ≡ false) name
name_bare = All-from_recursion (λ (b : ℕ). is_slash b ≡ false) name (refl, (refl, (refl, (refl, (refl, (refl, (refl, (refl, (refl, (refl, (refl, (refl, (refl, (refl, tt))))))))))))))

name_normal : abnormal_component name ≡ None
name_normal = refl

-- the directories above a folder's file are those above the folder, and the folder
own_directories : (before : List ℕ) → directories (before ++ 47 ∷ name) ≡ directories_below (before ++ 47 ∷ name) (length before + 1)
own_directories before =
    let path : List ℕ = before ++ 47 ∷ name in
    let front : List ℕ = before ++ 47 ∷ [] in
    let parts : path ≡ front ++ name = sym (append_assoc before (47 ∷ []) name) in
    let long : length front ≡ length before + 1 = length-append before (47 ∷ []) in
    let whole : length path ≡ length front + length name = ap length parts ∙ length-append front name in
    bare_directories path (length before + 1) (length path) (omega arith) (λ j from below.
    ap (λ (v : List ℕ). is_slash (slice_index v j)) parts
    ∙ ap is_slash (get_or-append_right front name (length before + 1) j 0 long from)
    ∙ All-get_or (λ (b : ℕ). is_slash b ≡ false) name (j - (length before + 1)) 0 (omega arith) name_bare)

-- ---- a path below

nonempty : (before rest : List ℕ) → 0 < length (before ++ 47 ∷ rest)
nonempty before rest = omega (arith, length-append before (47 ∷ rest))

refused_search : (check : LinkCheck) (one other : Search) → check ≢ accepted → checked_search check one ≡ nothing → checked_search check other ≡ nothing
refused_search accepted one other refused found = absurd (refused refl)
refused_search empty_path one other refused found = refl
refused_search (not_normal component) one other refused found = refl
refused_search (through_link prefix) one other refused found = refl
refused_search (faulty f) one other refused found = found

below_normal : (lstat : Stats) (before rest : List ℕ) → abnormal_component before ≡ None → abnormal_component rest ≡ None → link_check lstat (before ++ 47 ∷ name) ≢ accepted → link_check lstat (before ++ 47 ∷ rest) ≡ link_check lstat (before ++ 47 ∷ name)
below_normal lstat before rest normal normal_rest refused =
    let own : List ℕ = before ++ 47 ∷ name in
    let path : List ℕ = before ++ 47 ∷ rest in
    let n : ℕ = length before + 1 in
    let front : List ℕ = before ++ 47 ∷ [] in
    let long : length front ≡ n = length-append before (47 ∷ []) in
    let own_check : link_check lstat own ≡ leftmost_barrier lstat (directories_below own n) =
    link_check_normal lstat own (nonempty before name) (abnormal_split before name ∙ ap (λ (v : Option (List ℕ)). option_or v (abnormal_component name)) normal)
    ∙ ap (leftmost_barrier lstat) (own_directories before) in
    let path_check : link_check lstat path ≡ leftmost_barrier lstat (directories path) =
    link_check_normal lstat path (nonempty before rest) (abnormal_split before rest ∙ ap (λ (v : Option (List ℕ)). option_or v (abnormal_component rest)) normal ∙ normal_rest) in
    let more = more_directories path n (length path) (omega (arith, length-append before (47 ∷ rest))) in
    let same : directories_below path n ≡ directories_below own n =
    ap (λ (v : List ℕ). directories_below v n) (sym (append_assoc before (47 ∷ []) rest))
    ∙ same_directories front rest name n (omega arith)
    ∙ ap (λ (v : List ℕ). directories_below v n) (append_assoc before (47 ∷ []) name) in
    let all : directories path ≡ directories_below own n ++ more.0 = more.1 ∙ ap (λ (v : List (List ℕ)). v ++ more.0) same in
    path_check
    ∙ ap (leftmost_barrier lstat) all
    ∙ leftmost_more lstat (directories_below own n) more.0 (λ is. refused (own_check ∙ is))
    ∙ sym own_check

abnormal_below : (lstat : Stats) (before rest component : List ℕ) (other : Search) → abnormal_component (before ++ 47 ∷ rest) ≡ Some component → checked_search (link_check lstat (before ++ 47 ∷ rest)) other ≡ nothing
abnormal_below lstat before rest component other abnormal =
    ap (λ (v : LinkCheck). checked_search v other) (link_check_abnormal lstat (before ++ 47 ∷ rest) component (nonempty before rest) abnormal)

below_by : (lstat : Stats) (before rest : List ℕ) (a b : Option (List ℕ)) → abnormal_component before ≡ a → abnormal_component rest ≡ b → link_check lstat (before ++ 47 ∷ name) ≢ accepted
    → (one other : Search) → checked_search (link_check lstat (before ++ 47 ∷ name)) one ≡ nothing → checked_search (link_check lstat (before ++ 47 ∷ rest)) other ≡ nothing
below_by lstat before rest (Some component) b is is_rest refused one other found =
    abnormal_below lstat before rest component other (abnormal_split before rest ∙ ap (λ (v : Option (List ℕ)). option_or v (abnormal_component rest)) is)
below_by lstat before rest None (Some component) is is_rest refused one other found =
    abnormal_below lstat before rest component other (abnormal_split before rest ∙ ap (λ (v : Option (List ℕ)). option_or v (abnormal_component rest)) is ∙ is_rest)
below_by lstat before rest None None is is_rest refused one other found =
    let own : LinkCheck = link_check lstat (before ++ 47 ∷ name) in
    ap (λ (v : LinkCheck). checked_search v other) (below_normal lstat before rest is is_rest refused)
    ∙ refused_search own one other refused found

-- if the link check refuses a folder's file, nothing is found below the folder
pub refused_below : (lstat : Stats) (before rest : List ℕ) → link_check lstat (before ++ 47 ∷ name) ≢ accepted
    → (one other : Search) → checked_search (link_check lstat (before ++ 47 ∷ name)) one ≡ nothing → checked_search (link_check lstat (before ++ 47 ∷ rest)) other ≡ nothing
refused_below lstat before rest refused one other found =
    below_by lstat before rest (abnormal_component before) (abnormal_component rest) refl refl refused one other found

unless_memory : (f : Fault) → at_fault f ≢ out_of_memory → at_fault f ≡ nothing
unless_memory faults.Memory present = absurd (present refl)
unless_memory faults.NotFound present = refl
unless_memory faults.NotADirectory present = refl
unless_memory faults.PermissionDenied present = refl
unless_memory faults.Interrupted present = refl
unless_memory faults.IllformedUtf8 present = refl
unless_memory faults.UnexpectedEnd present = refl
unless_memory faults.NotNormal present = refl
unless_memory (faults.Other n) present = refl

-- at a path that is refused nothing is found, unless memory runs out
pub refused_nothing : (check : LinkCheck) (at_path : Search) → check ≢ accepted → checked_search check at_path ≢ out_of_memory → checked_search check at_path ≡ nothing
refused_nothing accepted at_path refused present = absurd (refused refl)
refused_nothing empty_path at_path refused present = refl
refused_nothing (not_normal component) at_path refused present = refl
refused_nothing (through_link prefix) at_path refused present = refl
refused_nothing (faulty f) at_path refused present = unless_memory f present
