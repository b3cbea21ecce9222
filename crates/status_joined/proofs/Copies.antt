-- Copies of the list's items.
use Rattle.std.proofs.Common.{◌≡◌, rules}
use Rattle.status_joined.specs.Copies.{IsCopy}
use Rattle.status_joined.specs.Items.{Item}

-- If clones of reports equal their originals, so do copies of items.
pub same_copy : {T U : Type 0} {t : T → T → Type 0} {u : U → U → Type 0} → ((x y : T) → t x y → y ≡ x) → ((x y : U) → u x y → y ≡ x) → (x y : Item T U) → IsCopy t u x y → y ≡ x
same_copy ts us x y copied = search (rules, ts, us)
