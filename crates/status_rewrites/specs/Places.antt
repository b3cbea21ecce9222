-- The states of the list's positions, while the pairs are applied.
use Rattle.std.specs.Prelude.{◌≡◌, ◌==◌, Bool, true, false, not, ◌&&◌, List, [], ◌∷◌, Option, Some, None, Result, Ok, Err, is_some, slice_get, slice_set, ⊤}
use Rattle.status_rewrites.specs.declared.tracker.Pair.{Pair}
use Rattle.status_rewrites.specs.declared.place.Place.{Place}
use Rattle.status_rewrites.specs.declared.rewrites.Rewritten.{Rewritten}
use Rattle.status_rewrites.specs.declared.rewrites.Rewritten.TheVariants.{Alone, Rewrite}

-- A position that is in no pair yet.
abbrev pub free : {I : Type 0} → I → Place I
free x = record { item = Some x; arrived = None; as_copy = false; kept = false }

-- There is a value, and it passes a test.
abbrev pub passes : {X : Type 0} → (X → Bool) → Option X → Bool
passes test None = false
passes test (Some x) = test x

-- The item is there, passes a test, and has no part yet.
abbrev pub is_free : {I : Type 0} → (I → Bool) → Place I → Bool
is_free test a = not a.kept && not (is_some a.arrived) && passes test a.item

-- The item may be a pair's source.
abbrev pub may_go : {I : Type 0} → (I → Bool) → Bool → Place I → Bool
may_go removed true a = not (is_some a.arrived) && is_some a.item
may_go removed false a = is_free removed a

-- There is room for one more pair.
abbrev pub fits : {I : Type 0} → (I → Bool) → (I → Bool) → List (Place I) → Pair → Bool
fits removed walked places p =
    not (p.source == p.destination) && passes (may_go removed p.copy) (slice_get places p.source) && passes (is_free walked) (slice_get places p.destination)

-- The state of a pair's source after the pair.
abbrev pub left_by : {I : Type 0} → Bool → Place I → Place I
left_by true a = record a { kept = true }
left_by false a = record a { item = None }

-- The state of a pair's destination after the pair.
abbrev pub reached_by : {I : Type 0} → Bool → Option I → Place I → Place I
reached_by copy y a = record a { arrived = y; as_copy = copy }

-- The item that a pair brings, by the item at its source: a rename brings that, a copy a copy of it.
abbrev pub AreOf : {I : Type 0} → (I → I → Type 0) → Bool → Option I → Option I → Type 0
AreOf is_made_of false x y = y ≡ x
AreOf is_made_of true None None = ⊤
AreOf is_made_of true None (Some y) = ⊥
AreOf is_made_of true (Some x) None = ⊥
AreOf is_made_of true (Some x) (Some y) = is_made_of x y

-- The state of the source after the pair, with the item that the pair brings.
abbrev pub IsLeft : {I E : Type 0} → (I → I → Type 0) → Bool → Place I → Result (Option I) E → Place I → Type 0
IsLeft is_made_of copy a (Ok y) b = (b ≡ left_by copy a) × AreOf is_made_of copy a.item y
IsLeft is_made_of copy a (Err e) b = ⊤

-- The states before and after one more pair.
pub record IsPaired {I : Type 0} (is_made_of : I → I → Type 0) (places : List (Place I)) (p : Pair) (new : List (Place I)) : Type 0 where
  pub from : Place I
  pub from_is : slice_get places p.source ≡ Some from
  pub brought : Option I
  pub brought_is : AreOf is_made_of p.copy from.item brought
  pub onto : Place I
  pub onto_is : slice_get (slice_set places p.source (left_by p.copy from)) p.destination ≡ Some onto
  pub new_is : new ≡ slice_set (slice_set places p.source (left_by p.copy from)) p.destination (reached_by p.copy brought onto)

-- The entries at a position after all pairs.
abbrev pub standing_by : {I : Type 0} → Option I → Option I → Bool → List (Rewritten I)
standing_by None y copy = []
standing_by (Some x) None copy = Alone x ∷ []
standing_by (Some x) (Some y) copy = Rewrite y x copy ∷ []

abbrev pub standing_in : {I : Type 0} → Place I → List (Rewritten I)
standing_in a = standing_by a.item a.arrived a.as_copy
