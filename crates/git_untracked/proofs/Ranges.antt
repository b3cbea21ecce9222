-- The range of entries below a folder has an entry exactly if some entry is below it.
use Rattle.std.proofs.Common.{◌≡◌, ◌∙◌, ℕ, ◌+◌, ◌-◌, ◌<◌, true, List, [], ◌∷◌, length, take, drop, slice_index_or, Option, Some, None, is_some, sym, ap, arith}
use Rattle.std.proofs.lemmas.List.{length-take, length-drop, get_or-drop, get_or-take}
use Rattle.std.proofs.lemmas.List.Folds.{list_any_at, list_any_none}
use Rattle.std.specs.declared.ops.Range.{Range}
use Rattle.status_index.specs.Entries.{IndexEntry}
use Rattle.status_index.specs.Stretch.{IsPrefixed, IsStretch, is_under}
use Rattle.git_untracked.specs.Questions.{has_below}

module _ (folder : List ℕ) where
  first_within : (es : List IndexEntry) (r : Range ℕ) → IsStretch es folder r.start r.end → r.start < r.end → (d : IndexEntry) → is_under folder (slice_index_or es r.start d) ≡ true
  first_within es r stretch some d =
      let part = take (r.end - r.start) (drop r.start es) in
      let long : 0 < length part = omega (arith, length-take (r.end - r.start) (drop r.start es), length-drop r.start es, stretch.inside, some) in
      let same : r.start + 0 ≡ r.start = omega arith in
      let first : slice_index_or part 0 d ≡ slice_index_or es r.start d =
      get_or-take (r.end - r.start) (drop r.start es) 0 d (omega (arith, some)) ∙ (get_or-drop r.start es 0 d ∙ ap (λ (n : ℕ). slice_index_or es n d) same) in
      sym (ap (is_under folder) first) ∙ stretch.within 0 d long

  some_within : (es : List IndexEntry) (r : Range ℕ) → IsStretch es folder r.start r.end → r.start < r.end → has_below es folder ≡ true
  some_within [] r stretch some = absurd (omega (arith, stretch.inside, some))
  some_within (e ∷ es) r stretch some =
      list_any_at (is_under folder) (e ∷ es) r.start e (omega (arith, stretch.inside, some)) (first_within (e ∷ es) r stretch some e)

  pub found_below : (es : List IndexEntry) (r : Option (Range ℕ)) → 0 < length folder → IsPrefixed es folder r → is_some r ≡ has_below es folder
  found_below es None some prefixed = sym (list_any_none (is_under folder) es prefixed.1)
  found_below es (Some r) some prefixed = sym (some_within es r prefixed.0 (prefixed.1 some))
