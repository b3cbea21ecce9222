-- Lists of another length than one, two or four.
use Rattle.std.proofs.Common.{◌≡◌, ◌<◌, List, [], ◌∷◌, length, None, refl, arith}
use Rattle.serde_json.specs.View.{items_view}
use Rattle.serde_json.specs.declared.value.Value.{Value}
use Rattle.status_profile.specs.Events.{four_of, one_of, two_of}

pub one_short : (vs : List Value) → length vs < 1 → one_of (items_view vs) ≡ None
one_short [] h = refl
one_short (a ∷ vs) h = absurd (omega arith)

pub one_long : (vs : List Value) → 1 < length vs → one_of (items_view vs) ≡ None
one_long [] h = absurd (omega arith)
one_long (a ∷ []) h = absurd (omega arith)
one_long (a ∷ b ∷ vs) h = refl

pub two_short : (vs : List Value) → length vs < 2 → two_of (items_view vs) ≡ None
two_short [] h = refl
two_short (a ∷ []) h = refl
two_short (a ∷ b ∷ vs) h = absurd (omega arith)

pub two_long : (vs : List Value) → 2 < length vs → two_of (items_view vs) ≡ None
two_long [] h = absurd (omega arith)
two_long (a ∷ []) h = absurd (omega arith)
two_long (a ∷ b ∷ []) h = absurd (omega arith)
two_long (a ∷ b ∷ c ∷ vs) h = refl

pub four_short : (vs : List Value) → length vs < 4 → four_of (items_view vs) ≡ None
four_short [] h = refl
four_short (a ∷ []) h = refl
four_short (a ∷ b ∷ []) h = refl
four_short (a ∷ b ∷ c ∷ []) h = refl
four_short (a ∷ b ∷ c ∷ d ∷ vs) h = absurd (omega arith)

pub four_long : (vs : List Value) → 4 < length vs → four_of (items_view vs) ≡ None
four_long [] h = absurd (omega arith)
four_long (a ∷ []) h = absurd (omega arith)
four_long (a ∷ b ∷ []) h = absurd (omega arith)
four_long (a ∷ b ∷ c ∷ []) h = absurd (omega arith)
four_long (a ∷ b ∷ c ∷ d ∷ []) h = absurd (omega arith)
four_long (a ∷ b ∷ c ∷ d ∷ e ∷ vs) h = refl
