-- Values that differ in the proof of a fact alone are the same.
use Rattle.std.proofs.Common.{◌≡◌, ap}

pub same_anyhow : {A B : Type 0} (of : ∥ A ∥₁ → B) (x y : ∥ A ∥₁) → of x ≡ of y
same_anyhow of x y = ap of (squash₁ x y)
