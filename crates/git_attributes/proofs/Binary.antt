-- One NUL or one lone CR is enough.
use Rattle.std.proofs.Common.{◌≡◌, ℕ, ◌||◌, Bool, true, false, List, refl, sym}
use Rattle.std.specs.List.{list_any}
use Rattle.git_attributes.specs.Text.{has_lone_cr, is_binary, is_nul}

or_left : (a b : Bool) → a ≡ true → (a || b) ≡ true
or_left a b e = rw e refl

or_right : (a b : Bool) → b ≡ true → (a || b) ≡ true
or_right true b e = refl
or_right false b e = e

pub binary_cr : (bytes : List ℕ) → has_lone_cr bytes ≡ true → true ≡ is_binary bytes
unfolding is_binary
binary_cr bytes e = sym (or_left (has_lone_cr bytes || list_any is_nul bytes) _ (or_left (has_lone_cr bytes) _ e))

pub binary_nul : (bytes : List ℕ) → list_any is_nul bytes ≡ true → true ≡ is_binary bytes
unfolding is_binary
binary_nul bytes e = sym (or_left (has_lone_cr bytes || list_any is_nul bytes) _ (or_right (has_lone_cr bytes) _ e))
