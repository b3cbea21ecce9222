-- The changes that are kept, one record after the other.
use Rattle.std.proofs.Common.{◌≡◌, ◌∙◌, ◌++◌, ◌∷◌, [], ◌||◌, not, false, true, Bool, List, All, filter, Some, None, Result, refl, sym, subst, ap, append-nil}
use Rattle.std.specs.List.{list_any}
use Rattle.std.proofs.Math.Bool.{or-false, or-true}
use Rattle.std.proofs.lemmas.List.Elements.{All-filter, filter-append}
use Rattle.std.proofs.lemmas.List.Folds.{list_any-append}
use Rattle.status_call.specs.IndexChanges.{AreInside, changes_of}
use Rattle.status_call.proofs.IndexChanges.{asked, changes_inside, kept_none, kept_some}
use Rattle.status_call.specs.Query.{Query}
use Rattle.status_call.specs.StatusTheorem.{IsStatusReport}
use Rattle.status_call.specs.Visits.{IsFaithful, Visit}
use Rattle.status_call.specs.declared.index_as_worktree.apply.ApplyChange.{ApplyChange}
use Rattle.status_call.specs.declared.index_as_worktree.types.Outcome.{Outcome}
use Rattle.status_compare.specs.declared.error.Error.{Error}
use Rattle.status_index.specs.States.{backing_of, entries_of, index_of}
use Rattle.status_index.specs.declared.state.State.{State}
use Rattle.git_status.specs.Kept.{Asks, is_left_out, kept_changes}

any_more : {A : Type 0} (p : A → Bool) (xs : List A) (x : A) → list_any p (xs ++ x ∷ []) ≡ list_any p xs || p x
any_more p xs x = list_any-append p xs (x ∷ []) ∙ ap (λ b. list_any p xs || b) (or-false (p x))

module _ {T U : Type 0} (said : Asks) (vs : List (Visit T U)) (v : Visit T U) where
  abbrev IsLeft : Bool → Type 0
  IsLeft answer = is_left_out said v ≡ answer

  kept_of : IsLeft false → filter (λ v. not (is_left_out said v)) (vs ++ v ∷ []) ≡ filter (λ v. not (is_left_out said v)) vs ++ v ∷ []
  kept_of kept = filter-append (λ v. not (is_left_out said v)) vs (v ∷ []) ∙ rw kept refl

  none_of : IsLeft true → filter (λ v. not (is_left_out said v)) (vs ++ v ∷ []) ≡ filter (λ v. not (is_left_out said v)) vs
  none_of left = filter-append (λ v. not (is_left_out said v)) vs (v ∷ []) ∙ rw left (append-nil (filter (λ v. not (is_left_out said v)) vs))

  -- a record with a change
  pub change_more : (c : ApplyChange) → IsLeft false → asked v ≡ Some c → kept_changes said (vs ++ v ∷ []) ≡ kept_changes said vs ++ c ∷ []
  change_more c kept same = ap changes_of (kept_of kept) ∙ kept_some asked (filter (λ v. not (is_left_out said v)) vs) v c same

  -- a record without one
  pub none_more : IsLeft false → asked v ≡ None → kept_changes said (vs ++ v ∷ []) ≡ kept_changes said vs
  none_more kept same = ap changes_of (kept_of kept) ∙ kept_none asked (filter (λ v. not (is_left_out said v)) vs) v same

  -- a record that is left out
  pub out_more : IsLeft true → kept_changes said (vs ++ v ∷ []) ≡ kept_changes said vs
  out_more left = ap changes_of (none_of left)

  pub all_more : IsLeft false → not (list_any (is_left_out said) (vs ++ v ∷ [])) ≡ not (list_any (is_left_out said) vs)
  all_more kept = ap not (any_more (is_left_out said) vs v ∙ rw kept (or-false (list_any (is_left_out said) vs)))

  pub not_all : IsLeft true → not (list_any (is_left_out said) (vs ++ v ∷ [])) ≡ false
  not_all left = ap not {y = true} (any_more (is_left_out said) vs v ∙ rw left (or-true (list_any (is_left_out said) vs)))

module _ {T U : Type 0} where
  -- the changes that are kept are of entries of the index
  pub kept_inside : (said : Asks) (q : Query T U) (index : State) (result : Result Outcome Error) (vs : List (Visit T U)) → IsStatusReport q index [] result vs → AreInside (kept_changes said vs) (index_of index)
  kept_inside said q index result vs met =
      changes_inside index (filter (λ v. not (is_left_out said v)) vs)
      (All-filter (λ v. not (is_left_out said v)) (IsFaithful (entries_of index) (backing_of index)) vs (subst (λ vs. All (IsFaithful (entries_of index) (backing_of index)) vs) (sym met.grew) met.faithful))
