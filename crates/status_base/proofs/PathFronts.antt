-- The directories above a path, found byte by byte.
use Rattle.std.proofs.Common.{◌≡◌, ℕ, zero, suc, ◌<◌, Bool, true, false, cond, ◌||◌, List, [], ◌∷◌, take, slice_index, refl, ap, subst, ◌∙◌, arith, ⊎_elim}
use Rattle.std.specs.List.{list_any}
use Rattle.std.proofs.lemmas.Bool.{cases_eq}
use Rattle.std.proofs.lemmas.List.Folds.{list_any-append}
use Rattle.status_base.specs.Paths.{is_slash, directories_below}

or_true : (a b : Bool) → b ≡ true → (a || b) ≡ true
or_true true b h = refl
or_true false b h = h

-- the front before a slash is one of the directories
pub any_front : (p : List ℕ → Bool) (path : List ℕ) (n i : ℕ) → i < n → is_slash (slice_index path i) ≡ true → p (take i path) ≡ true → list_any p (directories_below path n) ≡ true
any_front p path zero i less slash passes = absurd (omega arith)
any_front p path (suc n) i less slash passes =
    let last = λ (b : Bool). list_any p (cond b (take n path ∷ []) []) in
    let split : list_any p (directories_below path (suc n)) ≡ (list_any p (directories_below path n) || last (is_slash (slice_index path n))) = list_any-append p (directories_below path n) _ in
    ⊎_elim {C = list_any p (directories_below path (suc n)) ≡ true}
    (λ (same : i ≡ n).
    let slash' : is_slash (slice_index path n) ≡ true = subst (λ k. is_slash (slice_index path k) ≡ true) same slash in
    let passes' : p (take n path) ≡ true = subst (λ k. p (take k path) ≡ true) same passes in
    split ∙ or_true _ _ (ap last slash' ∙ ap (λ b. b || false) passes'))
    (λ (other : i ≡ n → ⊥). split ∙ ap (λ b. b || last (is_slash (slice_index path n))) (any_front p path n i (omega arith) slash passes))
    (cases_eq i n)
