-- Facts about two paths with a common front.
use Rattle.std.proofs.Common.{◌≡◌, ℕ, zero, suc, ◌+◌, ◌-◌, ◌<◌, ◌≤◌, Bool, true, false, not, cond, IsTrue, List, [], ◌∷◌, ◌++◌, length, take, drop, Option, Some, None, Result, slice_index, nat_eq, refl, sym, ◌∙◌, ap, subst, inl, inr, arith, add-one, append_assoc, if◌then◌else◌}
use Rattle.std.specs.List.{find, filter, onto_first}
use Rattle.std.specs.Option.{option_or}
use Rattle.std.proofs.Math.Seq.{take-add}
use Rattle.std.proofs.lemmas.List.{drop_at, drop_more, get_or-take, get_or_append_left, length-append, length-take, length-take-le, take-append-drop, take-take, take_all, take_at, take_more, take_rest}
use Rattle.std.proofs.lemmas.List.Elements.{filter-append}
use Rattle.std.proofs.lemmas.List.Folds.{find-append}
use Rattle.std.proofs.lemmas.List.Splits.{length-slice_split, slice_split-cons_yes}
use Rattle.std.proofs.lemmas.Bool.{cases_lt}
use Rattle.std.proofs.lemmas.Bool.Decides.{Decides-eqb}
use Rattle.std.proofs.lemmas.Slice.Eq.{starts_is}
use Rattle.status_index.specs.declared.fault.Fault.{Fault}
use Rattle.status_index.specs.declared.stat.Metadata.{Metadata}
use Rattle.status_base.specs.Common.{IsCommon}
use Rattle.status_base.specs.Paths.{is_slash, is_abnormal, components, abnormal_component, directories_below, joined, lies_above}
use Rattle.status_base.specs.LinkCheck.{barrier_of}
use Rattle.status_base.specs.CheckState.{IsClear, IsClearBelow}
use Rattle.status_base.proofs.LinkLemmas.{length-directories}

-- fronts and bytes within a common front are the same
front_same : (n k : ℕ) (xs ys : List ℕ) → take n xs ≡ take n ys → k ≤ n → take k xs ≡ take k ys
front_same n k xs ys same within = sym (take-take k n xs within) ∙ ap (take k) same ∙ take-take k n ys within

byte_same : (n k : ℕ) (xs ys : List ℕ) → take n xs ≡ take n ys → k < n → slice_index xs k ≡ slice_index ys k
byte_same n k xs ys same within =
    sym (get_or-take n xs k 0 within) ∙ ap (λ (v : List ℕ). slice_index v k) same ∙ get_or-take n ys k 0 within

-- if one path is clear, the other is clear within the common front
pub clear_common : (lstat : List ℕ → Result Metadata Fault) (tested path : List ℕ) (n : ℕ) → IsCommon tested path n → IsClear lstat tested → IsClearBelow lstat path n
clear_common lstat tested path n common clear k below slash =
    let P : ℕ → Type 0 = λ b. IsTrue (is_slash b) in
    let Q : List ℕ → Type 0 = λ d. barrier_of (lstat d) ≡ None in
    let there : IsTrue (is_slash (slice_index tested k)) = subst P (sym (byte_same n k tested path common.same below)) slash in
    subst Q (front_same n k tested path common.same (omega arith)) (clear k (omega (arith, common.within_one)) there)

pub joined_behind : (root path : List ℕ) → joined root path ≡ joined root [] ++ path
joined_behind [] path = refl
joined_behind (b ∷ root) path = sym (append_assoc (b ∷ root) (47 ∷ []) path)

-- a buffer with a path below a root has two parts: the text before the path, and the path
pub joined_parts : (root path items : List ℕ) (start : ℕ) → length (joined root []) ≡ start → items ≡ joined root path → (take start items ≡ joined root []) × (drop start items ≡ path)
joined_parts root path items start long is =
    (ap (take start) (is ∙ joined_behind root path) ∙ take_at (joined root []) path start long, ap (drop start) (is ∙ joined_behind root path) ∙ drop_at (joined root []) path start long)

-- a buffer is cut after the common front, and the rest of the other path is appended
pub joined_again : (root path items : List ℕ) (start tested n : ℕ) → take start items ≡ joined root [] → IsCommon (take tested (drop start items)) path n → take (start + n) items ++ drop n path ≡ joined root path
joined_again root path items start tested n below common =
    let within : n ≤ tested = omega (arith, common.within_one, length-take tested (drop start items)) in
    let front : take n (drop start items) ≡ take n path = sym (take-take n tested (drop start items) within) ∙ common.same in
    ap (λ (v : List ℕ). v ++ drop n path) (take-add start n items ∙ ap (λ (v : List ℕ). v ++ take n (drop start items)) below ∙ ap (λ (v : List ℕ). joined root [] ++ v) front)
    ∙ append_assoc (joined root []) (take n path) (drop n path)
    ∙ ap (λ (v : List ℕ). joined root [] ++ v) (take-append-drop n path)
    ∙ sym (joined_behind root path)

onto_append : (x : ℕ) (parts others : List (List ℕ)) → 0 < length parts → onto_first x (parts ++ others) ≡ onto_first x parts ++ others
onto_append x [] others some = absurd (omega arith)
onto_append x (part ∷ parts) others some = refl

split_step : (b : Bool) (x : ℕ) (parts others : List (List ℕ)) → 0 < length parts → cond b ([] ∷ (parts ++ others)) (onto_first x (parts ++ others)) ≡ cond b ([] ∷ parts) (onto_first x parts) ++ others
split_step true x parts others some = refl
split_step false x parts others some = onto_append x parts others some

split_at_slash : (xs ys : List ℕ) (b : ℕ) → is_slash b ≡ true → components (xs ++ b ∷ ys) ≡ components xs ++ components ys
split_at_slash [] ys b slash = slice_split-cons_yes is_slash b ys slash
split_at_slash (x ∷ xs) ys b slash =
    ap (λ (v : List (List ℕ)). cond (is_slash x) ([] ∷ v) (onto_first x v)) (split_at_slash xs ys b slash)
    ∙ split_step (is_slash x) x (components xs) (components ys) (omega (arith, length-slice_split is_slash xs))

-- the components before a slash, and those after it
components_split : (path : List ℕ) (at : ℕ) → at < length path → IsTrue (is_slash (slice_index path at)) → components path ≡ components (take at path) ++ components (drop (at + 1) path)
components_split path at within slash =
    ap components (sym (take-append-drop at path) ∙ ap (λ (v : List ℕ). take at path ++ v) (drop_more path at 0 within))
    ∙ split_at_slash (take at path) (drop (at + 1) path) (slice_index path at) slash

abnormal_split : (path : List ℕ) (at : ℕ) → at < length path → IsTrue (is_slash (slice_index path at)) → abnormal_component path ≡ option_or (abnormal_component (take at path)) (abnormal_component (drop (at + 1) path))
abnormal_split path at within slash =
    ap (find is_abnormal) (components_split path at within slash)
    ∙ find-append is_abnormal (components (take at path)) (components (drop (at + 1) path))

none_first : (a b : Option (List ℕ)) → option_or a b ≡ None → a ≡ None
none_first None b h = refl
none_first (Some x) b h = h

-- if no component is abnormal, none before a slash is
pub normal_front : (path : List ℕ) (at : ℕ) → at < length path → IsTrue (is_slash (slice_index path at)) → abnormal_component path ≡ None → abnormal_component (take at path) ≡ None
normal_front path at within slash normal =
    none_first (abnormal_component (take at path)) (abnormal_component (drop (at + 1) path)) (sym (abnormal_split path at within slash) ∙ normal)

-- if one path has no abnormal component, the first one of the other begins after the last slash in common
pub abnormal_behind : (tested path : List ℕ) (n first : ℕ) → IsCommon tested path n → (0 < n → abnormal_component tested ≡ None) → first ≤ n → (0 < first → IsTrue (is_slash (slice_index (take n path) (first - 1)))) → abnormal_component path ≡ abnormal_component (drop first path)
abnormal_behind tested path n zero common normal within slash = refl
abnormal_behind tested path n (suc k) common normal within slash =
    let P : ℕ → Type 0 = λ b. IsTrue (is_slash b) in
    let less : k < n = omega arith in
    let before : suc k - 1 ≡ k = omega arith in
    let here : IsTrue (is_slash (slice_index path k)) = subst P (ap (slice_index (take n path)) before ∙ get_or-take n path k 0 less) (slash (omega arith)) in
    let there : IsTrue (is_slash (slice_index tested k)) = subst P (sym (byte_same n k tested path common.same less)) here in
    let front : abnormal_component (take k path) ≡ None =
    ap abnormal_component (sym (front_same n k tested path common.same (omega arith)))
    ∙ normal_front tested k (omega (arith, common.within_one)) there (normal (omega arith)) in
    abnormal_split path k (omega (arith, common.within)) here
    ∙ ap (λ (v : Option (List ℕ)). option_or v (abnormal_component (drop (k + 1) path))) front
    ∙ ap (λ (m : ℕ). abnormal_component (drop m path)) (add-one k)

false_unless : (b : Bool) → (b ≡ true → ⊥) → b ≡ false
false_unless true h = absurd (h refl)
false_unless false h = refl

-- a directory whose slash is after the common front isn't above the other path
not_above : (tested path : List ℕ) (n k : ℕ) → IsCommon tested path n → n ≤ k → k < length path → IsTrue (is_slash (slice_index path k)) → lies_above (take k path) tested ≡ true → ⊥
not_above tested path n k common behind within slash above =
    let front : List ℕ = take k path ++ 47 ∷ [] in
    let rest : List ℕ = drop (length front) tested in
    let begins : tested ≡ front ++ rest = (starts_is {E = nat_eq} Decides-eqb tested front true (sym above)).0 refl in
    let byte : slice_index path k ≡ 47 = (Decides-eqb (slice_index path k) 47).0 slash in
    let same : front ≡ take (k + 1) path = ap (λ (b : ℕ). take k path ++ b ∷ []) (sym byte) ∙ sym (take_more path k 0 within) in
    let long : length front ≡ k + 1 = ap length same ∙ length-take-le (k + 1) path (omega arith) in
    let longer : length tested ≡ length front + length rest = ap length begins ∙ length-append front rest in
    let here : slice_index tested n ≡ slice_index path n =
    ap (λ (v : List ℕ). slice_index v n) begins
    ∙ get_or_append_left front rest 0 n (omega arith)
    ∙ ap (λ (v : List ℕ). slice_index v n) same
    ∙ get_or-take (k + 1) path n 0 (omega arith) in
    common.most (omega arith) (omega arith) here

new_last : (p : List ℕ → Bool) (d : List ℕ) (slash : Bool) → (IsTrue slash → p d ≡ true) → length (if slash then d ∷ [] else []) ≤ length (filter p (if slash then d ∷ [] else []))
new_last p d true new =
    let one : filter p (d ∷ []) ≡ d ∷ [] = ap (λ (b : Bool). cond b (d ∷ []) []) (new refl) in omega (arith, ap length one)
new_last p d false new = omega arith

-- each directory whose slash is after the common front is new
pub new_counted : (tested path : List ℕ) (n m : ℕ) → IsCommon tested path n → m ≤ length path → length (directories_below path m) ≤ length (directories_below path n) + length (filter (λ (d : List ℕ). not (lies_above d tested)) (directories_below path m))
new_counted tested path n zero common within = omega arith
new_counted tested path n (suc m) common within =
    let p : List ℕ → Bool = λ d. not (lies_above d tested) in
    let last : List (List ℕ) = if is_slash (slice_index path m) then take m path ∷ [] else [] in
    elim (cases_lt m n) [
      | inl less ↦ omega (arith, length-directories path (suc m) n (omega arith))
      | inr far ↦ (let fresh : length last ≤ length (filter p last) = new_last p (take m path) (is_slash (slice_index path m)) (λ slash. ap not (false_unless (lies_above (take m path) tested) (not_above tested path n m common (omega arith) (omega arith) slash))) in
          let both : length (filter p (directories_below path m ++ last)) ≡ length (filter p (directories_below path m)) + length (filter p last) = ap length (filter-append p (directories_below path m) last) ∙ length-append (filter p (directories_below path m)) (filter p last) in
          omega (arith, new_counted tested path n m common (omega arith), length-append (directories_below path m) last))
    ]

-- the abnormal component of a path is that of the rest after the last slash in common
pub abnormal_first : (path items : List ℕ) (start tested n first : ℕ) → IsCommon (take tested (drop start items)) path n → (0 < tested → abnormal_component (take tested (drop start items)) ≡ None) → first ≤ length (take n path) → (0 < first → IsTrue (is_slash (slice_index (take n path) (first - 1)))) → abnormal_component path ≡ abnormal_component (take (length path - first) (drop first path))
abnormal_first path items start tested n first common normal within slash =
    abnormal_behind (take tested (drop start items)) path n first common (λ some. normal (omega (arith, common.within_one, length-take tested (drop start items)))) (omega (arith, length-take n path)) slash
    ∙ ap abnormal_component (sym (take_rest path first))

-- if the rest of a buffer is a path, as many bytes of the rest as the path has are the path
pub whole_behind : (path items : List ℕ) (start : ℕ) → drop start items ≡ path → take (length path) (drop start items) ≡ path
whole_behind path items start is = ap (take (length path)) is ∙ take_all (length path) path (omega arith)

pub normal_behind : (path items : List ℕ) (start at : ℕ) → drop start items ≡ path → abnormal_component (take at path) ≡ None → abnormal_component (take at (drop start items)) ≡ None
normal_behind path items start at is normal = ap (λ (v : List ℕ). abnormal_component (take at v)) is ∙ normal

pub clear_none : (lstat : List ℕ → Result Metadata Fault) (items : List ℕ) (start tested : ℕ) → tested ≡ 0 → IsClear lstat (take tested (drop start items))
clear_none lstat items start tested none k below slash = absurd (omega (arith, length-take tested (drop start items)))

pub clear_front : (lstat : List ℕ → Result Metadata Fault) (path : List ℕ) (n : ℕ) → IsClearBelow lstat path n → IsClear lstat (take n path)
clear_front lstat path n clear k below slash =
    let P : ℕ → Type 0 = λ b. IsTrue (is_slash b) in
    let Q : List ℕ → Type 0 = λ d. barrier_of (lstat d) ≡ None in
    let less : k < n = omega (arith, length-take n path) in
    subst Q (sym (take-take k n path (omega arith))) (clear k less (subst P (get_or-take n path k 0 less) slash))

pub clear_behind : (lstat : List ℕ → Result Metadata Fault) (path items : List ℕ) (start n : ℕ) → drop start items ≡ path → IsClear lstat (take n path) → IsClear lstat (take n (drop start items))
clear_behind lstat path items start n is clear = let P : List ℕ → Type 0 = λ p. IsClear lstat (take n p) in subst P (sym is) clear
