-- Texts that are read item by item.
use Rattle.std.specs.Prelude.{ℕ, ◌==◌, zero, suc, List, [], ◌∷◌, Option, Some, None, if◌then◌else◌}

abbrev pub after_item : {A T : Type 0} → (T → List A × T) → T → Option (A × T) → List A × T
after_item more text None = ([], text)
after_item more text (Some x) = let r = more x.1 in (x.0 ∷ r.0, r.1)

-- The items that come first in a text, read by `at` one after the other, at most n of them, and what is left.
abbrev pub items_of : {A T : Type 0} → (T → Option (A × T)) → ℕ → T → List A × T
items_of at zero text = ([], text)
items_of at (suc n) text = after_item (items_of at n) text (at text)

-- The items, if nothing is left.
abbrev pub all_of : {A : Type 0} → A → List ℕ → Option A
all_of items [] = Some items
all_of items (b ∷ rest) = None

-- The items, if this byte follows them, and the text after it.
abbrev pub closed_by : {A : Type 0} → ℕ → A → List ℕ → Option (A × List ℕ)
closed_by c items [] = None
closed_by c items (b ∷ rest) = if b == c then Some (items, rest) else None
