-- From the reports of a status to the tracked half.
use Rattle.std.proofs.Common.{◌≡◌, false, Option, Some, None, is_some, rules}

pub none_of : {A : Type 0} (o : Option A) → is_some o ≡ false → o ≡ None
none_of None unset = λ i. None
none_of (Some x) unset = absurd (search (unset, rules))
