-- Paths below an excluded folder.
use Rattle.std.proofs.Common.{◌≡◌, ◌∙◌, ◌<◌, ◌≤◌, ◌+◌, ◌==◌, ◌&&◌, ◌||◌, not, All, inl, inr, ℕ, Bool, true, false, cond, List, [], ◌∷◌, ◌++◌, length, drop, take, Option, Some, None, refl, sym, ap, append_assoc, length-append, arith}
use Rattle.std.proofs.lemmas.Bool.{or_cases}
use Rattle.std.proofs.lemmas.List.{append-nil, length-take}
use Rattle.std.proofs.lemmas.List.Elements.{All-head, All-tail}
use Rattle.std.proofs.lemmas.List.Folds.{list_any-append}
use Rattle.std.proofs.lemmas.Slice.Eq.{bytes_eq-Decides}
use Rattle.std.specs.List.{list_any, slice_index_or}
use Rattle.std.specs.Option.{option_or}
use Rattle.std.specs.Str.{bytes_eq}
use Rattle.git_ignore.specs.Excluded.{IsWithin, excludes, folders_above, folders_from, is_excluded, is_for, is_match_below, is_matched, last_for}
use Rattle.git_ignore.specs.Rules.{Rule}

-- ---- the folders above a path

folders_more : (front folder path : List ℕ)
    → folders_from front (folder ++ 47 ∷ path) ≡ folders_from front folder ++ (front ++ folder) ∷ folders_from ((front ++ folder) ++ 47 ∷ []) path
folders_more front [] path = ap (λ (f : List ℕ). f ∷ folders_from (f ++ 47 ∷ []) path) (sym (append-nil front))
folders_more front (b ∷ folder) path =
    let same = append_assoc front (b ∷ []) folder in
    let more = folders_more (front ++ b ∷ []) folder path
    ∙ ap (λ (f : List ℕ). folders_from (front ++ b ∷ []) folder ++ f ∷ folders_from (f ++ 47 ∷ []) path) same in
    elim (b == 47) as (λ v. cond v (front ∷ folders_from (front ++ b ∷ []) (folder ++ 47 ∷ path)) (folders_from (front ++ b ∷ []) (folder ++ 47 ∷ path))
    ≡ cond v (front ∷ folders_from (front ++ b ∷ []) folder) (folders_from (front ++ b ∷ []) folder) ++ (front ++ b ∷ folder) ∷ folders_from ((front ++ b ∷ folder) ++ 47 ∷ []) path) [
      | true ↦ ap (λ (fs : List (List ℕ)). front ∷ fs) more
      | false ↦ more
    ]

or_left : (a b : Bool) → a ≡ true → (a || b) ≡ true
or_left a b e = rw e refl

or_right : (a b : Bool) → b ≡ true → (a || b) ≡ true
or_right true b e = refl
or_right false b e = e

folder_excludes : (rules : List Rule) (folder path : List ℕ) (is_folder : Bool) → is_excluded rules folder true ≡ true → is_excluded rules (folder ++ 47 ∷ path) is_folder ≡ true
folder_excludes rules folder path is_folder e =
    let test = λ (f : List ℕ). is_matched rules f true in
    let others = folders_from (folder ++ 47 ∷ []) path in
    let split = ap (list_any test) (folders_more [] folder path) ∙ list_any-append test (folders_above folder) (folder ∷ others) in
    or_left (list_any test (folders_above (folder ++ 47 ∷ path))) (is_matched rules (folder ++ 47 ∷ path) is_folder)
    (split ∙ elim (or_cases (list_any test (folders_above folder)) (is_matched rules folder true) e) [
      | inl h ↦ or_left (list_any test (folders_above folder)) (test folder || list_any test others) h
      | inr h ↦ or_right (list_any test (folders_above folder)) (test folder || list_any test others) (or_left (test folder) (list_any test others) h)
    ])

-- ---- rules of files within the folder

not_equal : (xs ys : List ℕ) → length xs < length ys → bytes_eq xs ys ≡ false
not_equal xs ys less = elim (bytes_eq xs ys) as (λ v. bytes_eq xs ys ≡ v → v ≡ false) [
  | true ↦ λ e. absurd (omega (arith, less, ap length ((bytes_eq-Decides xs ys).0 e)))
  | false ↦ λ e. refl
] refl

neither : (v : Bool) → cond v false false ≡ false
neither true = refl
neither false = refl

module _ (path : List ℕ) (is_folder : Bool) where
  -- A rule is for no path that is shorter than its folder's.
  not_for : (rule : Rule) → length path < length rule.folder → is_for rule path is_folder ≡ false
  not_for rule less =
      let front = take (length rule.folder) path in
      let v = rule.only_folders && not is_folder in
      ap (λ (w : Bool). cond v false (is_match_below rule (cond w (Some (drop (length rule.folder) path)) None)))
      (not_equal front rule.folder (omega (arith, less, length-take (length rule.folder) path)))
      ∙ neither v

  abbrev IsShorter : Rule → Type 0
  IsShorter rule = length path < length rule.folder

  none_for : (rules : List Rule) → All IsShorter rules → last_for rules path is_folder ≡ None
  none_for [] less = refl
  none_for (rule ∷ rules) less =
      ap (λ (o : Option Rule). option_or o (cond (is_for rule path is_folder) (Some rule) None)) (none_for rules (All-tail IsShorter rule rules less))
      ∙ ap (λ (v : Bool). cond v (Some rule) None) (not_for rule (All-head IsShorter rule rules less))

  same_last : (rules later : List Rule) → last_for later path is_folder ≡ None → last_for (rules ++ later) path is_folder ≡ last_for rules path is_folder
  same_last [] later none = none
  same_last (rule ∷ rules) later none = ap (λ (o : Option Rule). option_or o (cond (is_for rule path is_folder) (Some rule) None)) (same_last rules later none)

longer : (folder path : List ℕ) (rule : Rule) → length path ≤ length folder → IsWithin folder rule → length path < length rule.folder
longer folder path rule le within = omega (arith, le, ap length within.1, length-append folder (47 ∷ within.0))

-- Rules of files within a folder change nothing for a path that isn't longer than that folder's.
same_matched : (rules later : List Rule) (folder path : List ℕ) (is_folder : Bool) → All (IsWithin folder) later → length path ≤ length folder
    → is_matched rules path is_folder ≡ is_matched (rules ++ later) path is_folder
same_matched rules later folder path is_folder within le =
    sym (ap excludes (same_last path is_folder rules later (none_for path is_folder later (λ k d less. longer folder path (slice_index_or later k d) le (within k d less)))))

same_folders : (p q : List ℕ → Bool) (n : ℕ) → ((folder : List ℕ) → length folder ≤ n → p folder ≡ q folder) → (front path : List ℕ) → length front + length path ≤ n
    → list_any p (folders_from front path) ≡ list_any q (folders_from front path)
same_folders p q n same front [] le = refl
same_folders p q n same front (b ∷ path) le =
    let others = folders_from (front ++ b ∷ []) path in
    let more = same_folders p q n same (front ++ b ∷ []) path (omega (arith, le, length-append front (b ∷ []))) in
    elim (b == 47) as (λ v. list_any p (cond v (front ∷ others) others) ≡ list_any q (cond v (front ∷ others) others)) [
      | true ↦ ap (λ (x : Bool). x || list_any p others) (same front (omega (arith, le))) ∙ ap (λ (x : Bool). q front || x) more
      | false ↦ more
    ]

pub below_excluded : (rules later : List Rule) (folder path : List ℕ) (is_folder : Bool) → is_excluded rules folder true ≡ true → All (IsWithin folder) later
    → is_excluded (rules ++ later) (folder ++ 47 ∷ path) is_folder ≡ true
below_excluded rules later folder path is_folder e within =
    let all = rules ++ later in
    let same = λ (f : List ℕ) (le : length f ≤ length folder). same_matched rules later folder f true within le in
    let above = same_folders (λ f. is_matched rules f true) (λ f. is_matched all f true) (length folder) same [] folder (omega arith) in
    let is_all = ap (λ (v : Bool). v || is_matched rules folder true) above
    ∙ ap (λ (v : Bool). list_any (λ f. is_matched all f true) (folders_above folder) || v) (same folder (omega arith)) in
    folder_excludes all folder path is_folder (sym is_all ∙ e)
