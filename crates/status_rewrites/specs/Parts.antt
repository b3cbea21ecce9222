-- The numbers of pairs at a position of the list.
use Rattle.std.specs.Prelude.{ℕ, ◌==◌, not, ◌&&◌, List}
use Rattle.std.specs.List.{count_by}
use Rattle.status_rewrites.specs.declared.tracker.Pair.{Pair}

-- The number of renames that take its item out.
abbrev pub renames_from : List Pair → ℕ → ℕ
renames_from ps i = count_by (λ p. p.source == i && not p.copy) ps

-- The number of copies of its item.
abbrev pub copies_from : List Pair → ℕ → ℕ
copies_from ps i = count_by (λ p. p.source == i && p.copy) ps

-- The number of pairs whose destination it is.
abbrev pub pairs_to : List Pair → ℕ → ℕ
pairs_to ps i = count_by (λ p. p.destination == i) ps
