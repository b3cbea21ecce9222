-- The bytes of a line that are kept.
use Rattle.std.proofs.Common.{ℕ, List, [], ◌∷◌, ◌++◌}

-- The kept bytes of a line whose front was read: those up to the last one that has to be kept, or all of the front if a byte after it is kept.
abbrev pub joined : List ℕ → List ℕ → List ℕ → List ℕ
joined so_far front [] = so_far
joined so_far front (b ∷ more) = front ++ b ∷ more
