-- What `put` does below open folders.
use Rattle.std.proofs.Common.{◌≡◌, ◌≢◌, ℕ, suc, ◌+◌, ◌<◌, ◌==◌, Bool, true, false, cond, eqb, ltb, List, [], ◌∷◌, ◌++◌, length, take, drop, get_or, position, Some, None, All, refl, sym, ◌∙◌, ap, arith, add-one, append_assoc}
use Rattle.std.specs.List.{AllByRecursion, count_by, position_or_len}
use Rattle.std.specs.Str.{bytes_eq}
use Rattle.std.proofs.lemmas.Bool.{eqb-true, ltb-false}
use Rattle.std.proofs.lemmas.List.Sums.{fails_before_first}
use Rattle.std.proofs.lemmas.List.{take-append-drop, get_or-take, length-take-le}
use Rattle.std.proofs.Math.Seq.{drop-cons}
use Rattle.std.proofs.Math.Dec.{eqb-suc-zero}
use Rattle.std.proofs.lemmas.List.Elements.{All-from_get_or}
use Rattle.std.proofs.lemmas.List.Quantifiers.{position-Some}
use Rattle.std.proofs.lemmas.List.Splits.{slice_split_at, slice_split_none, length-slice_split}
use Rattle.std.proofs.lemmas.Slice.Eq.{bytes_eq-Decides}
use Rattle.status_index.specs.declared.id.ObjectId.{ObjectId}
use Rattle.status_index.specs.declared.mode.Mode.{Mode}
use Rattle.git_staged.specs.Trees.{Items, no_items, and_leaf, and_folder, before_folder, in_folder, put, is_slash, components}
use Rattle.git_staged.specs.OpenFolders.{Frame, all_items, folder_path, HasName, IsAfterLast}

-- A path has a component.
pub some_component : (path : List ℕ) → (length (components path) == 0) ≡ false
some_component path =
    ap (λ (n : ℕ). eqb n 0) (length-slice_split is_slash path ∙ add-one (count_by is_slash path)) ∙ eqb-suc-zero (count_by is_slash path)

-- A leaf below a name and more components.
pub put_below : (name rest : List ℕ) (mode : Mode) (id : ObjectId) (t : Items) → All (λ b. is_slash b ≡ false) name
    → put (components (name ++ 47 ∷ rest)) mode id t ≡ and_folder (before_folder name t) name (put (components rest) mode id (in_folder name t))
put_below name rest mode id t plain =
    ap (λ (cs : List (List ℕ)). put cs mode id t) (slice_split_at is_slash name 47 rest plain refl)
    ∙ ap (λ (b : Bool). cond b (and_leaf t name mode id) (and_folder (before_folder name t) name (put (components rest) mode id (in_folder name t)))) (some_component rest)

-- A leaf below the last folder.
pub put_inside : (f : Frame) (rest : List ℕ) (mode : Mode) (id : ObjectId) (t : Items) → HasName f
    → put (components (f.name ++ 47 ∷ rest)) mode id (and_folder f.before f.name t) ≡ and_folder f.before f.name (put (components rest) mode id t)
put_inside f rest mode id t plain =
    let same : bytes_eq f.name f.name ≡ true = (bytes_eq-Decides f.name f.name).1 refl in
    put_below f.name rest mode id (and_folder f.before f.name t) plain
    ∙ ap (λ (b : Bool). and_folder (cond b f.before (and_folder f.before f.name t)) f.name (put (components rest) mode id (cond b t no_items))) same

-- A leaf below all open folders.
pub put_in_open : (fs : List Frame) (rest : List ℕ) (mode : Mode) (id : ObjectId) (t : Items) → AllByRecursion HasName fs
    → put (components (folder_path fs ++ rest)) mode id (all_items fs t) ≡ all_items fs (put (components rest) mode id t)
put_in_open [] rest mode id t named = refl
put_in_open (f ∷ fs) rest mode id t named =
    ap (λ (p : List ℕ). put (components p) mode id (all_items fs (and_folder f.before f.name t))) (append_assoc (folder_path fs) (f.name ++ 47 ∷ []) rest ∙ ap (λ (q : List ℕ). folder_path fs ++ q) (append_assoc f.name (47 ∷ []) rest))
    ∙ (put_in_open fs (f.name ++ 47 ∷ rest) mode id (and_folder f.before f.name t) named.1
    ∙ ap (all_items fs) (put_inside f rest mode id t named.0))

not_true : (b : Bool) → b ≢ true → b ≡ false
not_true true h = absurd (h refl)
not_true false h = refl

-- If the path isn't in the last item, then its first folder is a new one.
new_folder : (name rest path : List ℕ) (t : Items) → path ≡ name ++ 47 ∷ rest → IsAfterLast path [] t → (before_folder name t ≡ t) × (in_folder name t ≡ no_items)
new_folder name rest path no_items e left = (refl, refl)
new_folder name rest path (and_leaf t other mode id) e left = (refl, refl)
new_folder name rest path (and_folder t other items) e left =
    let differs : other ≢ name = λ same. left rest (e ∙ (sym (append_assoc name (47 ∷ []) rest) ∙ ap (λ (n : List ℕ). (n ++ 47 ∷ []) ++ rest) (sym same))) in
    let no : bytes_eq other name ≡ false = not_true (bytes_eq other name) (λ yes. differs ((bytes_eq-Decides other name).0 yes)) in
    (ap (λ (b : Bool). cond b t (and_folder t other items)) no, ap (λ (b : Bool). cond b items no_items) no)

pub put_new : (name rest path : List ℕ) (mode : Mode) (id : ObjectId) (t : Items) → All (λ b. is_slash b ≡ false) name → path ≡ name ++ 47 ∷ rest → IsAfterLast path [] t
    → put (components path) mode id t ≡ and_folder t name (put (components rest) mode id no_items)
put_new name rest path mode id t plain e left =
    let new = new_folder name rest path t e left in
    ap (λ (p : List ℕ). put (components p) mode id t) e
    ∙ (put_below name rest mode id t plain
    ∙ (ap (λ (b : Items). and_folder b name (put (components rest) mode id (in_folder name t))) new.0
    ∙ ap (λ (b : Items). and_folder t name (put (components rest) mode id b)) new.1))

-- The parts at the first slash.
pub first_name : (path : List ℕ) (at : ℕ) → position is_slash path ≡ Some at → All (λ b. is_slash b ≡ false) (take at path) × (path ≡ take at path ++ 47 ∷ drop (at + 1) path)
first_name path at first =
    let found = position-Some is_slash path at 0 first in
    let within : at < length path = found.0 in
    let slash : get_or path at 0 ≡ 47 = eqb-true (get_or path at 0) 47 found.1 in (
      All-from_get_or (λ (b : ℕ). is_slash b ≡ false) (take at path) 0 (λ k below.
          let early : k < at = omega (arith, below, length-take-le at path (omega arith)) in
          ap is_slash (get_or-take at path k 0 early) ∙ found.2 k early),
      sym (take-append-drop at path)
          ∙ ap (λ (r : List ℕ). take at path ++ r) (drop-cons path at 0 within ∙ (ap (λ (b : ℕ). b ∷ drop (suc at) path) slash ∙ ap (λ (n : ℕ). 47 ∷ drop n path) (sym (add-one at)))),
    )

none_past : (test : Bool) (n : ℕ) → cond test (Some n) None ≡ None → test ≡ false
none_past true n h = absurd (cc)
none_past false n h = refl

-- A path without a slash is one component.
pub one_component : (path : List ℕ) → position is_slash path ≡ None → components path ≡ path ∷ []
one_component path none =
    let past = none_past (ltb (position_or_len is_slash path) (length path)) (position_or_len is_slash path) none in
    let far = ltb-false (position_or_len is_slash path) (length path) past in
    slice_split_none is_slash path (All-from_get_or (λ (b : ℕ). is_slash b ≡ false) path 0 (λ k within. fails_before_first is_slash path k 0 (omega arith)))
