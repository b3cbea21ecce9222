-- The entries of a list with its rewrites.
use Rattle.std.specs.Prelude.{◌≡◌, Bool, true, ⊤}
use Rattle.status_rewrites.specs.declared.rewrites.Rewritten.{Rewritten}
use Rattle.status_rewrites.specs.declared.rewrites.Rewritten.TheVariants.{Alone, Rewrite}

-- An entry with each of its items mapped.
abbrev pub map_rewritten : {I J : Type 0} → (I → J) → Rewritten I → Rewritten J
map_rewritten f (Alone x) = Alone (f x)
map_rewritten f (Rewrite source destination copy) = Rewrite (f source) (f destination) copy

-- A rewrite's destination is a walked item.
abbrev pub IsLed : {I : Type 0} → (I → Bool) → Rewritten I → Type 0
IsLed walked (Alone x) = ⊤
IsLed walked (Rewrite source destination copy) = walked destination ≡ true
