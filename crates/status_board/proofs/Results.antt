-- Facts about results that may be errors.
use Rattle.std.proofs.Common.{◌≡◌, Result, Ok, Err, IfOk, IfErr}

module _ {A E : Type 0} where
  -- a fact about the value of a result stays true if the error is replaced by another
  pub if_ok_kept : {F : Type 0} (P : A → Type 0) (r : Result A E) (s : Result A F) (f : F) → IfOk r (λ x. s ≡ Ok x) → IfErr r (λ _. s ≡ Err f) → IfOk r P → IfOk s P
  if_ok_kept P (Ok x) s f h k p = rw h p
  if_ok_kept P (Err e) s f h k p = rw k tt
