-- Lists of another length than two are no time.
use Rattle.std.proofs.Common.{◌≡◌, ◌<◌, List, [], ◌∷◌, length, None, refl, arith}
use Rattle.serde_json.specs.View.{items_view}
use Rattle.serde_json.specs.declared.value.Value.{Value}
use Rattle.status_format.specs.Reading.{two_in}

pub two_in_short : (vs : List Value) → length vs < 2 → two_in (items_view vs) ≡ None
two_in_short [] h = refl
two_in_short (v ∷ []) h = refl
two_in_short (v ∷ w ∷ vs) h = absurd (omega arith)

pub two_in_long : (vs : List Value) → 2 < length vs → two_in (items_view vs) ≡ None
two_in_long [] h = absurd (omega arith)
two_in_long (v ∷ []) h = absurd (omega arith)
two_in_long (v ∷ w ∷ []) h = absurd (omega arith)
two_in_long (v ∷ w ∷ x ∷ vs) h = refl
