-- The last rule that is for a path.
use Rattle.std.proofs.Common.{◌≡◌, ◌∙◌, ◌<◌, ◌≤◌, ◌+◌, ◌-◌, not, ℕ, Bool, true, false, cond, List, [], ◌∷◌, ◌++◌, length, map, take, Option, Some, None, refl, sym, ap, arith}
use Rattle.std.proofs.lemmas.List.{map_push, take_more}
use Rattle.std.specs.List.{slice_index_or}
use Rattle.std.specs.Option.{option_or}
use Rattle.git_ignore.specs.Excluded.{excludes, is_for, last_for}
use Rattle.git_ignore.specs.Rules.{Rule}

module _ (path : List ℕ) (is_folder : Bool) where
  -- A rule decides if it is for the path, and otherwise the last one before it.
  abbrev decided : Rule → Option Rule → Option Rule
  decided rule found = cond (is_for rule path is_folder) (Some rule) found

  or_decided : (v : Bool) (rule : Rule) (found first : Option Rule) → option_or (cond v (Some rule) found) first ≡ cond v (Some rule) (option_or found first)
  or_decided true rule found first = refl
  or_decided false rule found first = refl

  last_added : (rules : List Rule) (rule : Rule) → last_for (rules ++ rule ∷ []) path is_folder ≡ decided rule (last_for rules path is_folder)
  last_added [] rule = refl
  last_added (first ∷ rules) rule =
      let its = cond (is_for first path is_folder) (Some first) None in
      ap (λ (o : Option Rule). option_or o its) (last_added rules rule) ∙ or_decided (is_for rule path is_folder) rule (last_for rules path is_folder) its

  module _ {A : Type 0} (view : A → Rule) (rules : List A) (at : ℕ) (some : 0 < at) (inside : at ≤ length rules) (rule : A) (is_at : slice_index_or rules (at - 1) rule ≡ rule) where
    abbrev front : ℕ → Option Rule
    front n = last_for (map view (take n rules)) path is_folder

    front_more : front at ≡ decided (view rule) (front (at - 1))
    front_more =
        let next : at ≡ at - 1 + 1 = omega (arith, some) in
        ap (λ (n : ℕ). front n) next
        ∙ (ap (λ (rs : List A). last_for (map view rs) path is_folder) (take_more rules (at - 1) rule (omega (arith, some, inside)))
        ∙ (ap (λ (rs : List Rule). last_for rs path is_folder) (map_push view (take (at - 1) rules) (slice_index_or rules (at - 1) rule))
        ∙ (last_added (map view (take (at - 1) rules)) (view (slice_index_or rules (at - 1) rule))
        ∙ ap (λ (r : A). decided (view r) (front (at - 1))) is_at)))

    pub decides : (whole : Option Rule) → front at ≡ whole → is_for (view rule) path is_folder ≡ true → not (view rule).negated ≡ excludes whole
    decides whole so_far it_is =
        sym (ap excludes (sym so_far ∙ (front_more ∙ ap (λ (v : Bool). cond v (Some (view rule)) (front (at - 1))) it_is)))

    pub goes_on : (whole : Option Rule) → front at ≡ whole → is_for (view rule) path is_folder ≡ false → front (at - 1) ≡ whole
    goes_on whole so_far it_is =
        sym (front_more ∙ ap (λ (v : Bool). cond v (Some (view rule)) (front (at - 1))) it_is) ∙ so_far
