-- The order of moments, and clocks that advance.
use Rattle.std.proofs.Common.{◌≡◌, inl, inr, refl, ℕ, false, arith}
use Rattle.std.proofs.lemmas.Bool.Decides.{nat_tests}
use Rattle.status_index.specs.declared.stat.Moment.{Moment}
use Rattle.status_world.specs.Moments.{IsAtMost, is_after, plus_seconds, plus_nanoseconds}

pub at_most_refl : (a : Moment) → IsAtMost a a
at_most_refl a = inr (refl, omega arith)

pub at_most_trans : (a b c : Moment) → IsAtMost a b → IsAtMost b c → IsAtMost a c
at_most_trans a b c (inl h) (inl k) = inl (omega arith)
at_most_trans a b c (inl h) (inr k) = inl (omega arith)
at_most_trans a b c (inr h) (inl k) = inl (omega arith)
at_most_trans a b c (inr h) (inr k) = inr (omega arith, omega arith)

-- A clock that advances isn't earlier.
pub at_most_plus : (a : Moment) (n : ℕ) → IsAtMost a (plus_seconds a n)
at_most_plus a n = grind arith

pub at_most_plus_nanos : (a : Moment) (n : ℕ) → IsAtMost a (plus_nanoseconds a n)
at_most_plus_nanos a n = grind arith

pub at_most_not_after : (a b : Moment) → is_after a b ≡ false → IsAtMost a b
at_most_not_after a b h = grind (arith, nat_tests)
