-- Assignments, the last one first.
use Rattle.std.proofs.Common.{◌≡◌, ◌∙◌, ◌<◌, ◌≤◌, ◌-◌, ℕ, zero, suc, Bool, true, cond, List, [], ◌∷◌, ◌++◌, length, map, drop, refl, sym, ap, arith}
use Rattle.std.proofs.lemmas.List.{drop_all}
use Rattle.std.specs.List.{slice_index_or}
use Rattle.git_patterns.proofs.Backwards.{last_of}
use Rattle.git_attributes.specs.Assignments.{Given}
use Rattle.git_attributes.specs.Lines.{Macro}
use Rattle.git_attributes.specs.States.{assigned, is_known, unfolded}

abbrev assign_by : List Macro → ℕ → Given → List Given → List Given
assign_by macros depth given known = cond (is_known given.0 known) known (unfolded macros depth given (known ++ given ∷ []))

assigned_more : (macros : List Macro) (depth : ℕ) (given : Given) (rest known : List Given) → assigned macros depth (given ∷ rest) known ≡ assign_by macros depth given (assigned macros depth rest known)
assigned_more macros zero given rest known = refl
assigned_more macros (suc depth) given rest known = refl

assigned_none : (macros : List Macro) (depth : ℕ) (known : List Given) → assigned macros depth [] known ≡ known
assigned_none macros zero known = refl
assigned_none macros (suc depth) known = refl

module _ {A : Type 0} (view : A → Given) where
  -- nothing was assigned yet
  pub assigned_start : (macros : List Macro) (depth : ℕ) (xs : List A) (known : List Given) → known ≡ assigned macros depth (map view (drop (length xs) xs)) known
  assigned_start macros depth xs known =
      sym (ap (λ (ys : List A). assigned macros depth (map view ys) known) (drop_all (length xs) xs (omega arith)) ∙ assigned_none macros depth known)

  -- the last one assigns to an attribute that is known
  pub assigned_known : (macros : List Macro) (depth : ℕ) (xs : List A) (at : ℕ) (d : A) (start known : List Given) → 0 < at → at ≤ length xs
      → known ≡ assigned macros depth (map view (drop at xs)) start → is_known (view (slice_index_or xs (at - 1) d)).0 known ≡ true
      → known ≡ assigned macros depth (map view (drop (at - 1) xs)) start
  assigned_known macros depth xs at d start known some inside so_far is_there =
      let given = view (slice_index_or xs (at - 1) d) in
      sym (ap (λ (ys : List A). assigned macros depth (map view ys) start) (last_of xs at d some inside)
      ∙ (assigned_more macros depth given (map view (drop at xs)) start
      ∙ (ap (assign_by macros depth given) (sym so_far)
      ∙ ap (λ (v : Bool). cond v known (unfolded macros depth given (known ++ given ∷ []))) is_there)))
